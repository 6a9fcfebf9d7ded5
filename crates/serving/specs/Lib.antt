pub mod Lines
pub mod Works
pub mod Histories
pub mod Working
pub mod Endings
pub mod Attending
pub mod Runs
pub mod Laws
