pub mod Configurations
pub mod FirstBytes
pub mod Segments
pub mod Configuring
pub mod Noting
pub mod ReadHeads
pub mod Recording
