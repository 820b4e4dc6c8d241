pub mod Same
pub mod Once
pub mod Copied
mod Dues
mod Earliest
mod Firsts
mod Joined
mod Later
mod Lists
mod Mapped
mod Moments
mod Named
mod Numbered
mod NearTimes
mod OnTime
mod Ordering
mod Parts
mod Passing
mod Reasons
mod Sent
mod Tying
mod Walks
mod Queueing
mod Ends
mod Quietly
