pub mod Exits
pub mod Tellings
pub mod Onward
pub mod Records
pub use Rattle.sip_retell.specs as retell
pub use Rattle.sip_retell.specs.resume
pub use Rattle.sip_retell.specs.run
