pub mod Looked
pub mod Acting
pub mod Tagged
