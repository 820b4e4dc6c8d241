pub mod Places
pub mod Fronts
pub mod Looks
pub mod Points
pub mod Tags
