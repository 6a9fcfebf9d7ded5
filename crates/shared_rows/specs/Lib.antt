pub mod InsideRuns
pub mod Rows
pub mod Worked
