pub mod Told
pub mod Adding
pub mod Days
pub mod Printing
