pub mod Firsts
pub mod Runs
pub mod Places
