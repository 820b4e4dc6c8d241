pub mod Going
pub mod Refusing
pub mod Stopping
pub mod Waiting
pub mod RunOn
pub mod Standings
