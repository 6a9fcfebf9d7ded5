pub mod Levels
pub mod Sizes
pub mod Laws
pub mod Worked
