pub mod Spelling
pub mod Reading
pub mod Gives
pub mod Kept
pub mod Worked
