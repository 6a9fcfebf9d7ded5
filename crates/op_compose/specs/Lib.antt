pub mod Composition
pub mod Pairs
pub mod Worked
