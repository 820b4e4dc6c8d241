pub mod Outcome
pub mod Destinations
pub mod Cells
pub mod Csv
pub mod Html
pub mod Examples
