pub mod Equality
pub mod Order
pub mod Walk
pub mod Examples
