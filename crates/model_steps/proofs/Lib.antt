pub use Rattle.model_verdict.proofs.of_context_model
pub use Rattle.model_verdict.proofs.of_state
pub use Rattle.model_verdict.proofs as of_verdict_model
pub mod Marks
