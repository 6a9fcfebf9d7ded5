pub mod Holding
pub mod Names
pub mod InsideSlots
pub mod InsideLinks
