pub mod Rising
pub mod Levels
pub mod Spreading
pub mod Inserting
pub mod Among
pub mod Placing
pub mod Properties
pub mod Removing
