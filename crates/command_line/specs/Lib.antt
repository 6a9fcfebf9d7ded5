pub mod Forms
pub mod Parser
pub mod Meaning
