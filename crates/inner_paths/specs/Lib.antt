pub mod Distances
pub mod Tables
pub mod Hops
pub mod Tags
pub mod Cuts
pub mod Made
pub mod Worked
