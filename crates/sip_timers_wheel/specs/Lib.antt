pub mod Lists
pub mod Threads
pub mod Places
pub mod Order
pub mod Wheel
pub mod Marks
