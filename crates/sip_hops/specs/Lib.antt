pub mod HopsError
pub mod HostAddress
pub mod Hop
pub mod Code
pub mod Hops
pub mod Examples
