pub mod Permute
pub mod PairLemmas
pub mod Kept
pub mod Flat
pub mod Came
pub mod Parted
