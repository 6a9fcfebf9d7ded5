pub mod Leaves
pub mod Lends
pub mod Text
