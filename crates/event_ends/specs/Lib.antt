pub mod InsideSettling
pub mod InsideTelling
pub mod InsideRemovals
pub mod MovingIn
pub mod Boxes
pub mod Closings
pub mod Puts
