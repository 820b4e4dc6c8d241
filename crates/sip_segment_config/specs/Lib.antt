pub mod Last
pub mod Reads
pub mod Stops
