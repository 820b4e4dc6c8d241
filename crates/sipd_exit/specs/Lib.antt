pub mod Exits
pub mod Files
