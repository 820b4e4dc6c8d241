pub mod AuditError
pub mod Names
pub mod Lines
pub mod Reading
pub mod Parts
pub mod Examples
