pub mod Book
pub mod Examples
pub mod GivenName
pub mod Memory
pub mod Numbers
pub mod Place
pub mod Tally
pub mod Tries
