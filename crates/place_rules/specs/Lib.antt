pub mod Joined
pub mod Placed
pub mod InsideActions
pub mod InsideTransits
pub mod PlacingLaw
pub mod Worked
