pub mod Bytes
pub mod Failing
pub mod Framed
pub mod Nexts
pub mod Opens
pub mod Sent
