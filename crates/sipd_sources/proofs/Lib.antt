pub mod Growing
pub mod Judged
pub mod Keys
pub mod Asking
pub mod Counting
pub mod Addresses
pub mod Owning
