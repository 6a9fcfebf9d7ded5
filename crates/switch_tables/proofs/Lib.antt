pub mod Sets
pub mod Switching
pub mod Cookies
pub mod Each
pub mod Outcomes
