pub mod ByNumbers
pub use Rattle.sip_state.proofs as of_state
