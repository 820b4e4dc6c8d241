pub mod Algorithm
pub mod Protection
pub mod Answers
pub mod HexNumber
pub mod Credential
pub mod NonceText
pub mod Nonces
pub mod Rows
