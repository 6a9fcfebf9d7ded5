pub mod Entering
pub mod Using
pub mod Findings
pub mod Lines
pub mod Answers
pub mod Worked
