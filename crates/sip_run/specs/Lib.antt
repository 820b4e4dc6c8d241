pub mod Due
pub mod Refusals
pub mod Runs
pub use Rattle.sip_engine.specs as engine
