pub mod Order
pub mod Printable
pub mod Adding
pub mod Whole
