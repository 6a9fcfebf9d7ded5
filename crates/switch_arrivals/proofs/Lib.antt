pub mod Apart
pub mod Bounds
pub mod Crowds
pub mod Places
