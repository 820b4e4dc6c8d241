pub mod Drafts
pub mod Proxy
pub mod Expiring
pub use Rattle.sip_fork.specs.context
pub use Rattle.sip_verdict.specs.context_model
pub use Rattle.sip_forwarding.specs as forwarding
pub use Rattle.sip_fork.specs as fork
pub use Rattle.sip_fork.specs.steps_model
pub use Rattle.sip_forwarding.specs.transactions_model
pub use Rattle.sip_verdict.specs as verdict
