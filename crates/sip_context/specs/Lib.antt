pub mod Base
pub mod Inputs
pub mod Sent
pub mod Sides
pub use Rattle.sip_context_branches.specs.state
