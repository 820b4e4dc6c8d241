pub mod Begins
pub mod Boots
pub mod OldRecords
pub mod Shorter
pub mod StackLimit
pub mod Stops
