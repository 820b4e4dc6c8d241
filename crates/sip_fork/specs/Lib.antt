pub mod Keeping
pub mod Contexts
pub mod Due
pub mod Ending
pub mod Firing
pub mod Places
pub mod Queue
pub mod Quiet
pub mod Timing
pub use Rattle.sip_context.specs as context
pub use Rattle.sip_request.specs as request
pub use Rattle.sip_transaction_table.specs as transaction_table
pub use Rattle.model_steps.specs as steps_model
