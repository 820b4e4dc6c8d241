pub mod Delivery
pub mod Engine
pub mod StepError
pub use Rattle.sip_verdict.specs.context_model
pub use Rattle.sip_engine_request.specs as engine_time
pub use Rattle.sip_model.specs as model
pub use Rattle.sip_verdict.specs.state
pub use Rattle.sip_model.specs.steps_model
