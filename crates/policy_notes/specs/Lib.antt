pub mod Allowed
pub mod Names
pub mod Notes
pub mod Places
pub mod Remarks
pub mod Sentences
pub mod Showing
