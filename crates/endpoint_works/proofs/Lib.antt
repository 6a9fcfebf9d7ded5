pub mod Rounds
pub mod Chains
pub mod Sendings
pub mod Audits
