pub mod Sameness
pub mod Alike
pub use Rattle.model_context.proofs as of_context_model
pub use Rattle.model_context.proofs.of_state
