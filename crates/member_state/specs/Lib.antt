pub mod States
pub mod Denials
pub mod Changes
pub mod Plans
pub mod Leaves
pub mod Sound
pub mod Worked
pub mod InsideRanks
