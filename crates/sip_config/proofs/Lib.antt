pub mod Rows
pub mod Configured
pub mod Within
pub mod RowPlaces
pub mod Groups
