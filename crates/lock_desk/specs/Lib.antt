pub mod Hosts
pub mod Passes
pub mod Answers
