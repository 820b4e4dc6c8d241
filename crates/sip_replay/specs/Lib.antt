pub mod Errors
pub mod Records
pub mod Refusals
pub mod Replays
pub mod Recorded
pub mod Scripts
pub mod Unresumed
pub use Rattle.sip_resume.specs as resume
pub use Rattle.sip_resume.specs.run
