pub mod Highest
pub mod Saying
