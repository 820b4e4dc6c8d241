pub mod Head
pub mod Users
pub mod Hops
pub mod HostAddresses
pub mod HostPorts
pub mod Keys
pub mod Limits
pub mod Configuration
pub mod Stated
pub mod Examples
pub mod Configured
pub mod Rules
pub use Rattle.sip_config_values.specs as values
