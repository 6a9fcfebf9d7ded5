pub mod Answers
pub mod AuditLines
