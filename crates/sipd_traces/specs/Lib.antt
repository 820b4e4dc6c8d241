pub mod Traces
pub mod Ladders
pub mod Numbers
