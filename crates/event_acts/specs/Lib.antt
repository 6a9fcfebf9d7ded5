pub mod InsideJudging
pub mod InsideHearing
pub mod Acts
pub mod InsidePackets
pub mod Heard
pub mod CookieCounts
pub mod HeardActs
pub mod Overtaking
