pub mod Clock
pub mod Connections
pub mod Files
pub mod InMemory
pub mod Outside
pub mod Works
