pub mod Found
pub mod Building
pub mod Ending
