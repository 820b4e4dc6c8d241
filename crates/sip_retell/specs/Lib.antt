pub mod Items
pub mod Errors
pub mod Retells
pub mod Stops
pub use Rattle.sip_resume.specs as resume
pub use Rattle.sip_resume.specs.run
