pub mod TextRuns
pub mod Names
pub mod OneValue
pub mod Beginnings
pub mod LineEnds
