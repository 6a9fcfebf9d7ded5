pub mod Behind
pub mod InsideRuns
