pub mod Courses
pub mod Examples
pub mod File
pub mod MemoryFile
pub mod Watch
