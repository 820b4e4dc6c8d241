pub mod EitherMoment
pub mod Lists
