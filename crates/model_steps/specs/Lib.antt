pub mod Effect
pub mod Step
pub mod Examples
pub mod ConfigurationExamples
pub mod RegisterExamples
pub mod SameEffect
pub use Rattle.model_verdict.specs.context_model
pub use Rattle.model_verdict.specs.state
pub use Rattle.model_verdict.specs as verdict_model
