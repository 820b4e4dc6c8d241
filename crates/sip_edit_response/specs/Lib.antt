pub mod Challenges
pub mod Contacts
pub mod Reasons
pub mod Tags
pub mod Reply
pub mod Examples
pub mod Extras
pub mod ExtrasExamples
