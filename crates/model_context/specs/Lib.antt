pub mod Sending
pub mod Branches
pub mod FoundBranch
pub mod BranchById
pub mod Calls
pub mod Opening
pub mod Retransmission
pub mod Examples
pub use Rattle.sip_state.specs.config_types
pub use Rattle.sip_state.specs.edits as edit
pub use Rattle.sip_edit_response.specs as edit_response
pub use Rattle.sip_state.specs as state
