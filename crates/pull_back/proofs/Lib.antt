pub mod Guarded
pub mod PulledMatches
pub mod Normality
pub mod Exactness
