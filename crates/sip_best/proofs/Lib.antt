pub mod Orders
pub mod Choices
pub mod Picking
pub mod Lengths
