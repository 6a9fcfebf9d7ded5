pub mod Standing
pub mod BestTraced
pub mod UsedTraced
