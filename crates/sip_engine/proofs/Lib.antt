mod Judged
mod Taken
mod Places
mod Leading
mod Numbered
mod Waiting
mod FirstOf
pub use Rattle.sip_model.proofs.Along as of_order
