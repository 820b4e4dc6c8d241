pub mod Ahead
pub mod Begins
pub mod LineLaws
pub mod Parts
pub mod Texts
