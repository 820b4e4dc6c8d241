pub mod Least
pub mod Filing
pub mod Classes
