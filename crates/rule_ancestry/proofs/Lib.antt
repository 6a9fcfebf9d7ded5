pub mod Descending
pub mod LinkLemmas
pub mod Lists
pub mod OrderedLinks
pub mod Slots
pub mod StoreLemmas
