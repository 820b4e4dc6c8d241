pub mod Text
pub mod ReadError
pub mod ViewStart
pub mod ViewRefusal
pub mod KeptStart
pub mod Kept
pub use Rattle.sip_message_fields.specs as fields
