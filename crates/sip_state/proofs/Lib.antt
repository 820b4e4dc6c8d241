pub mod Sameness
pub mod Opened
pub mod Received
pub mod Told
pub mod Tails
pub mod Alike
pub use Rattle.sip_edit.proofs as of_edits
