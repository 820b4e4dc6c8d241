pub mod CredentialLaws
pub mod Names
pub mod UsualItems
pub mod Placing
