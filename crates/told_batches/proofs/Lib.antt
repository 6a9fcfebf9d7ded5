pub mod AnyOrder
pub mod Cookies
pub mod Rising
pub mod SortedEntries
pub mod Sought
pub mod Taken
pub mod ToldBatches
