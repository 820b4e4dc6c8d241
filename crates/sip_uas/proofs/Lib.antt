pub mod Planned
pub mod Replying
pub mod Answered
pub mod Serving
pub mod Final
