pub mod TextRun
pub mod Name
pub mod Marks
