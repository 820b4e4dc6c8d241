pub mod Answered
pub mod OneTo
pub mod Order
pub mod Told
pub mod PlainAddresses
pub mod PlainTags
pub mod ToTags
pub mod OtherLengths
