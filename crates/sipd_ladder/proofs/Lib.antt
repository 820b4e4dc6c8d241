pub mod Adding
pub mod Times
pub mod Places
