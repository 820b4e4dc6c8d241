pub mod Told
pub mod LineEnds
