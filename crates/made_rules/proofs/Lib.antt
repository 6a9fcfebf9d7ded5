pub mod Ids
pub mod Parted
pub mod Changes
pub mod Widening
pub mod SameRules
pub mod Naming
