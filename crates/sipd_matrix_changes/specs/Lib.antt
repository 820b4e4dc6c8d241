pub mod Both
pub mod Change
pub mod Lines
pub mod Examples
