pub mod Code
pub mod KeyedHasher
pub mod WordHasher
