pub mod Places
pub mod Laws
pub mod Served
pub mod Proxies
pub mod Hosting
pub mod Histories
