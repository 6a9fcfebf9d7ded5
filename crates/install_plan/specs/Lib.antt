pub mod Tables
pub mod Best
pub mod InsideSlots
pub mod InsideNumbering
pub mod InsideFinder
pub mod InsideBest
