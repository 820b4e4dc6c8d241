pub mod Key
pub mod Examples
pub mod Digest
pub mod Keys
pub mod Numbered
pub mod Rows
pub mod KeyMethod
