pub mod Columns
pub mod Lines
pub mod PasswordLines
pub mod ReadPasswords
pub mod Rows
pub mod Schemes
pub mod Words
