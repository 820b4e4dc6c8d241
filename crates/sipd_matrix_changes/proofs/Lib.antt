pub mod Sides
pub mod Cells
pub mod Nothing
