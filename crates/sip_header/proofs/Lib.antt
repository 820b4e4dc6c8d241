pub mod Collecting
pub mod OneValue
pub mod FoundValues
pub mod Single
pub mod Words
pub mod NumberLaws
pub mod ParameterLaws
pub mod NameAddrLaws
mod Lookup
pub mod Plain
pub mod Unread
pub mod PlainVias
pub mod PlainAddresses
pub mod WrittenAddresses
pub mod Placed
pub mod FirstParameters
