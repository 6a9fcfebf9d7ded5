pub mod Composing
pub mod Extending
pub mod Building
pub mod Digits
pub mod Decoding
pub mod Encoding
pub mod Lists
pub mod Prefixes
