pub mod Headers
pub mod Hiding
pub mod Frames
