pub mod Growing
pub mod Told
