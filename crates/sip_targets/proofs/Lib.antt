pub mod Contacts
pub mod Deciding
