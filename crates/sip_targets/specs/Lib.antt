pub mod Target
pub mod Targets
pub mod Examples
