pub mod Names
pub mod FirstMatch
pub mod Windows
