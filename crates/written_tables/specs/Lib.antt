pub mod Making
pub mod AuditLines
pub mod Laws
pub mod Reports
