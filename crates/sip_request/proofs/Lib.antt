pub mod Moving
pub mod Walking
pub mod Ending
pub mod Setting
pub mod Joining
pub mod Queued
pub use Rattle.model_transactions.proofs.Entries as of_entries
