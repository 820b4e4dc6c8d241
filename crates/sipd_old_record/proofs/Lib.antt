pub mod Asking
pub mod FirstLines
pub mod Owned
