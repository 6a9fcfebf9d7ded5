pub mod Splitting
pub mod Heads
pub mod Digits
pub mod ReadingBack
