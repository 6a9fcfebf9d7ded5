pub mod Phases
pub mod Steps
pub mod Takings
pub mod AuditTakings
