pub mod Configurations
pub mod Segments
pub mod Record
pub mod RecordHead
pub mod Recorder
