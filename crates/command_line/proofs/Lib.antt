pub mod Walks
pub mod Told
pub mod Shapes
pub mod Plain
pub mod Meant
