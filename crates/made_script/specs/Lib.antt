pub mod Drawing
pub mod Script
pub mod Summary
pub mod Worked
