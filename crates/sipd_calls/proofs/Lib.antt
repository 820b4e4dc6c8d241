pub mod MomentParts
pub mod Rows
pub mod Parts
pub mod Shown
pub mod Formulas
