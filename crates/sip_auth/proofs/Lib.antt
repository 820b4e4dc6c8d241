pub mod Algorithms
pub mod RightAnswers
pub mod PlainUris
pub mod Spending
