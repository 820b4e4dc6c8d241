pub mod Stood
pub mod Timed
pub mod Printing
pub mod PrintingSources
