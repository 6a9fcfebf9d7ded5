pub mod InsideSpans
pub mod Lists
pub mod Overlays
pub mod Ports
pub mod Waitings
