pub mod Early
pub mod Refusals
pub use Rattle.model_context.specs as context_model
pub use Rattle.model_context.specs.state
