pub mod Asked
pub mod Beginnings
pub mod Made
pub mod OldBeginnings
pub mod Refusals
pub mod StackLines
pub mod WholeRecords
