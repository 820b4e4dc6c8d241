pub mod Own
pub mod Way
pub mod Routes
pub mod RoutesKept
pub mod Examples
pub use Rattle.sip_header.specs as header
