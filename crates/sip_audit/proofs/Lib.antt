pub mod Words
pub mod Users
pub mod Outcomes
pub mod LineLaws
