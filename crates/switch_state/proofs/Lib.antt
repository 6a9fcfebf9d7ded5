pub mod Fitting
pub mod Frames
pub mod Left
pub mod Cookies
pub mod Partly
pub mod Tables
