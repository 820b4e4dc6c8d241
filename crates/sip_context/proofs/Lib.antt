pub mod SentPackets
pub mod Joined
pub mod Settled
