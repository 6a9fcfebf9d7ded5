pub mod Ways
pub mod Candidates
pub mod Sound
pub mod Showing
pub mod Nodes
pub mod Trees
pub mod Costs
pub mod Compiling
