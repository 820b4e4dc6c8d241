pub mod Leading
pub mod Shown
pub use Rattle.sip_retell.proofs.Hearing as of_retell
