pub mod Composed
pub mod Settled
pub mod Meanings
pub mod Kept
pub mod Turning
pub mod Sources
pub mod Costs
