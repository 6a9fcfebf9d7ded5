pub mod Counting
pub mod InOrder
pub mod Lists
pub mod Placing
pub mod Put
pub mod Sorting
