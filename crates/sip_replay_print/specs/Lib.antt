pub mod Print
pub mod Stops
