pub mod Proof
pub mod Offer
pub mod Examples
pub mod Sha256Examples
pub mod RealmExamples
pub mod RightAnswer
pub mod Finding
