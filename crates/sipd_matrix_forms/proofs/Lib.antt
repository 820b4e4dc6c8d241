pub mod Written
pub mod Lines
pub mod Counted
pub mod Destined
