pub mod Lines
pub mod Files
pub mod Counting
pub mod AskedAgain
pub mod Refused
