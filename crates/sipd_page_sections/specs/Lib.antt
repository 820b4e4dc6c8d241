pub mod Entries
pub mod Log
pub mod Notes
pub mod Picture
pub mod Sections
pub mod Tags
