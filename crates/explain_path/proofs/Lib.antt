pub mod Unique
pub mod Leaves
pub mod UsedByLeaf
pub mod UsedByOperands
pub mod UsedByHops
pub mod Tracing
pub mod BareTraces
