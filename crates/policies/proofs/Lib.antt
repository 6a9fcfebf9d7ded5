pub mod Expressions
pub mod Numbered
pub mod Outcomes
pub mod Rising
pub mod Shows
pub mod Widths
