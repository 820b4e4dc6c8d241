pub mod Written
pub mod Numbered
pub mod Groups
