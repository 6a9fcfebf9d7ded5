pub mod Lists
pub mod BareWalks
pub mod Finding
pub mod Giving
pub mod Evaluating
pub mod Following
