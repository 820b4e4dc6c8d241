pub mod CourseSteps
pub mod Offers
pub mod Parts
pub mod Seeing
pub mod States
