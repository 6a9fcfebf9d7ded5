pub mod Pauses
pub mod Settings
pub mod Sparing
pub mod Verdicts
