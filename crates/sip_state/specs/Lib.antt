pub mod Arrival
pub mod State
pub mod Dialogs
pub mod DialogExamples
pub mod SameState
pub mod TopVia
pub mod KeptRequest
pub mod Names
pub mod Tail
pub mod ReadOnce
pub mod AnswerText
pub use Rattle.sip_config_types.specs as config_types
pub use Rattle.sip_transaction_table.specs as transaction_table
pub use Rattle.sip_edit.specs as edits
