pub mod Alike
pub mod Keeping
pub mod KeptFields
pub mod Longer
pub mod StoredText
pub mod WrittenLines
pub mod OtherLengths
