pub mod Saying
pub mod Hearing
pub mod Drawing
pub mod Table
