pub mod ConfigError
pub mod KeyNames
pub mod Refusals
pub mod Grammar
pub mod Values
pub mod Rows
pub mod Words
pub mod InOrder
