pub mod Calls
pub mod OneList
pub mod OneRecord
pub mod Refusing
pub mod Replaying
pub mod Running
pub mod Stopping
pub mod Cut
pub mod Fronts
pub mod Joining
pub mod OfEvents
pub mod Recorded
pub mod Replayed
pub mod Unresumed
pub use Rattle.sip_resume.proofs.UnderRuns as of_resume
pub use Rattle.sip_resume.proofs.of_run
pub use Rattle.sip_resume.proofs.of_standings
