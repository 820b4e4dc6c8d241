pub mod Drafts
pub mod Asking
pub mod JudgedRequest
pub use Rattle.sip_forwarding.specs as forwarding
pub use Rattle.model_transactions.specs as transactions_model
