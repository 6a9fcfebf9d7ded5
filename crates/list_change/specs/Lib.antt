pub mod Pairing
pub mod Changes
pub mod Coming
pub mod Netting
