pub mod OldRecord
pub mod Own
pub mod Readers
pub mod FirstConfiguration
