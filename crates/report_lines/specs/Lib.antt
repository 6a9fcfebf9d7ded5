pub mod Lines
pub mod Reading
pub mod ReadBack
pub mod Worked
