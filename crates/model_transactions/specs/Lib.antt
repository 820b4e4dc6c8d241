pub mod Steps
pub mod InviteClient
pub mod OtherClient
pub mod InviteServer
pub mod OtherServer
pub mod Ties
pub mod Copies
pub mod Fits
pub mod Near
pub mod Queue
pub mod Matching
pub mod Kept
pub use Rattle.sip_context_branches.specs as context_branches
pub use Rattle.sip_context_branches.specs.context_model
pub use Rattle.sip_context_branches.specs.state
