pub mod Kinds
pub mod Parts
pub mod Rows
pub mod Picture
