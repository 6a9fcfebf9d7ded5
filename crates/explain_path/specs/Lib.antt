pub mod Traces
pub mod Used
pub mod Bare
pub mod Worked
