pub mod Items
pub mod Questions
pub mod InsideShapes
pub mod InsideGroups
pub mod Worked
