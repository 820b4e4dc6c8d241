pub mod Verdict
pub mod Examples
pub mod Sameness
pub use Rattle.sip_auth.specs as auth
pub use Rattle.model_context.specs as context_model
pub use Rattle.model_context.specs.edit
pub use Rattle.model_context.specs.state
