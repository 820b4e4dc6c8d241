pub mod Admitting
pub mod Steps
pub mod OpenSteps
pub mod Faults
pub mod Next
pub mod TimeSteps
pub mod Timers
pub use Rattle.sip_proxy.specs.fork
pub use Rattle.sip_proxy.specs.forwarding
pub use Rattle.sip_proxy.specs as proxy
pub use Rattle.sip_proxy.specs.transactions_model
pub use Rattle.sip_uas.specs as uas
