pub mod Passed
pub mod Digits
pub mod Pieces
pub mod Places
pub mod WordBytes
pub mod Accepted
pub mod Spelled
pub mod Ascii
