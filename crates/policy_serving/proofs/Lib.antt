mod Opened
mod Histories
mod KeptCrossing
mod Drained
mod Made
mod Opens
pub mod Served
pub mod Crossing
