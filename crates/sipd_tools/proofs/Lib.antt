pub mod LastOnes
pub mod Checked
pub mod Clocked
