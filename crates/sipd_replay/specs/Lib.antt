pub mod ReplayExits
pub mod Replays
