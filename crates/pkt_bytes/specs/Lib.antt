pub mod Numbers
pub mod Link
pub mod Ipv4
pub mod Headers
pub mod Checksums
pub mod Rewritten
pub mod Touched
pub mod Worked
