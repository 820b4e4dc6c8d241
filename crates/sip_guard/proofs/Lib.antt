pub mod Counting
pub mod Parting
pub mod Passing
pub mod Rating
