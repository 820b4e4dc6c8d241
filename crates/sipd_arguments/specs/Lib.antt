pub mod Summary
pub mod CommandLine
pub mod Examples
pub mod Commands
