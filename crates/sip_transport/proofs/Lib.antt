pub mod Aside
pub mod Readings
pub mod Turns
