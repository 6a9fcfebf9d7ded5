pub mod Places
pub mod Rows
pub mod Wires
pub mod Faults
pub mod Within
pub mod Made
pub mod Shown
pub mod Worked
