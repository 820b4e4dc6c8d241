pub mod Devices
pub mod Escaped
pub mod EventText
pub mod Events
pub mod Gathered
pub mod Lines
pub mod Recorded
pub mod Script
