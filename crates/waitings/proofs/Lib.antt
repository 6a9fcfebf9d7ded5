pub mod Firsts
pub mod Mapped
pub mod Same
pub mod Spans
