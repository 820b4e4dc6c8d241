pub mod Changes
pub mod Telling
pub mod Summary
pub mod Examples
