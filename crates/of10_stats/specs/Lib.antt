pub mod Kinds
pub mod Spelling
pub mod Ranges
pub mod Reading
pub mod Parts
pub mod Worked
