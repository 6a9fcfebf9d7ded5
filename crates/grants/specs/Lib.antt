pub mod Names
pub mod Denials
pub mod Ports
pub mod Rows
pub mod Granted
pub mod Worked
