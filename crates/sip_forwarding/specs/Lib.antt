pub mod Forwarding
pub mod Arrivals
pub mod Moved
pub use Rattle.model_transactions.specs as transactions_model
pub use Rattle.sip_context_branches.specs.context_model
pub use Rattle.model_steps.specs as steps_model
