pub mod Omitted
pub mod Holding
pub mod Fronts
