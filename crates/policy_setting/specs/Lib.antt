pub mod Wirings
pub mod Networks
pub mod Settings
pub mod Premises
pub mod OfPolicies
