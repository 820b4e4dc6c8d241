pub mod Ranks
pub mod Best
pub mod Examples
