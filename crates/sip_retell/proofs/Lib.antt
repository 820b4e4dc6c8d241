pub mod Hearing
pub mod Firing
pub mod Turning
pub mod Nexts
pub mod Itemwise
pub mod Wholly
pub use Rattle.sip_resume.proofs.of_standings
