pub mod Cells
pub mod Unused
pub mod Text
pub mod Examples
