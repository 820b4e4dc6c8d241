pub mod FrameKey
pub mod Frame
pub mod Examples
