pub mod FieldName
pub mod KnownName
pub mod Named
pub mod Spellings
pub mod Values
pub mod Piece
pub mod Slice
pub mod KeptField
pub mod Lines
pub mod NameEnds
pub use Rattle.sip_text.specs as text
