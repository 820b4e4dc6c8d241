pub mod Judge
pub mod Registering
pub mod Within
pub mod Verdict
pub mod Incoming
pub use Rattle.model_verdict.specs.context_model
pub use Rattle.model_verdict.specs.state
pub use Rattle.model_verdict.specs as verdict_model
