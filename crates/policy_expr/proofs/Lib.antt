pub mod SizeLemmas
pub mod Lefts
pub mod SignLemmas
pub mod Steps
pub mod Complete
pub mod Sound
pub mod FirstFault
pub mod Accepted
