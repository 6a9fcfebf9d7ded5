pub mod PortLists
pub mod Widths
pub mod Writable
pub mod Entries
pub mod Sums
pub mod Rising
pub mod Short
pub mod Replies
