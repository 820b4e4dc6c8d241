pub mod Mistakes
pub mod Encoding
