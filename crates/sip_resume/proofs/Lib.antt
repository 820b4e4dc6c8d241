pub mod Calls
pub mod Eventwise
pub mod OfEvents
pub mod Refused
pub mod Retaken
pub mod Running
pub mod Segmentwise
pub mod Stopping
pub mod UnderRuns
pub mod Wholly
pub use Rattle.sip_run.proofs.RunOn as of_run
pub use Rattle.sip_run.proofs.Standings as of_standings
