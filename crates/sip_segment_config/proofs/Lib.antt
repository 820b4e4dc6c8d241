pub mod SoFar
pub mod Stopping
