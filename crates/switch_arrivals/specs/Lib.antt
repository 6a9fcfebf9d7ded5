pub mod Claims
pub mod Strangers
