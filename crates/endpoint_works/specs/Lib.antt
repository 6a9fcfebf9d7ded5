pub mod Sides
pub mod Rounds
pub mod Chains
pub mod Sendings
pub mod Audits
pub mod Tasks
