pub mod Pulling
pub mod Pulls
pub mod Worked
