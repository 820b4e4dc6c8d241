pub mod Slots
pub mod Likeness
pub mod Near
pub mod Walk
pub mod Named
pub mod Ended
pub mod Order
pub mod Queued
pub use Rattle.model_transactions.specs as transactions_model
