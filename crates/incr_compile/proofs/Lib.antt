pub mod Images
pub mod Joins
pub mod Shares
pub mod Whole
pub mod Finding
pub mod Enough
pub mod Bridge
mod Showings
mod Fits
mod Carrying
mod TreeLemmas
mod TreeSteps
mod Scratch
mod Wholes
mod Told
mod Built
mod Applied
pub mod Spent
