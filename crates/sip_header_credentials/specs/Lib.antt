pub mod Credentials
pub mod UsualItems
