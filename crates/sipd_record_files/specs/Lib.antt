pub mod Places
pub mod RecordNames
pub mod Unmade
pub mod Named
