pub mod DialogUpdates
pub mod Tag
pub mod Telling
pub use Rattle.sip_state.specs as state
