pub mod Adding
pub mod Lines
pub mod Lengths
