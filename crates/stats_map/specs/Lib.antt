pub mod Counting
pub mod InsideSums
pub mod Histories
pub mod Told
pub mod Slots
pub mod Pending
pub mod Changes
pub mod Overlay
