pub mod Answering
pub mod Asking
pub mod Cancels
pub mod Counted
pub mod ForwardCounted
pub mod Forked
mod CountedStates
mod Effects
mod Found
mod Drafts
mod Failed
mod Lists
mod Moments
mod Results
mod Steps
mod Quiet
