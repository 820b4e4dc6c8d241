pub mod Told
pub mod Examples
pub mod MemoryLink
pub mod MemoryClock
pub mod SteadyClock
pub mod UdpLink
