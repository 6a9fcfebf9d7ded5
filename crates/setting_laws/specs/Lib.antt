pub mod Ready
pub mod Members
pub mod Taking
pub mod Drafted
pub mod Staying
pub mod Mixed
