pub mod Levels
pub mod Placing
pub mod InsidePlaces
pub mod Worked
