pub mod Counting
pub mod KnownNames
pub mod Spelled
pub mod Keeping
pub mod Slicing
pub mod ToldNames
pub mod NameEnds
