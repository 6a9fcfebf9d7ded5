pub mod Leaves
pub mod Plans
pub mod Touched
pub mod Told
