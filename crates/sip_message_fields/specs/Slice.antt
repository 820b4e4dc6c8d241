-- Slices of what was read: not bytes that are the same, but the same memory.
use Rattle.std.specs.Prelude.{◌≡◌, ℕ, ◌+◌, Bool, true, false, List}
use denote.Ref.{Bor}
use Rattle.sip_text.specs.declared.span.Span.{Span}
use Rattle.sip_text.specs.Span.{part, IsWithin}
use Rattle.sip_message_fields.specs.declared.piece.ViewPiece.{ViewPiece}
use Rattle.sip_message_fields.specs.declared.piece.ViewPiece.TheVariants.{Part, Joined}

-- A slice is the one of a source that a span names: it begins in the source's memory, so far behind its first byte, and has its bytes.
pub record IsSliceOf (source slice : Bor (List ℕ)) : Type 0 where
  pub span : Span
  pub within : IsWithin span source.now
  pub bytes : slice.now ≡ part source.now span
  pub block : slice.ref_ptr.0 ≡ source.ref_ptr.0
  pub place : slice.ref_ptr.1 ≡ source.ref_ptr.1 + span.start

-- A slice was cut from another: of whatever that one is a slice, so is it.
pub record IsCutFrom (source slice : Bor (List ℕ)) : Type 0 where
  pub of_whole : (whole : Bor (List ℕ)) → IsSliceOf whole source → IsSliceOf whole slice

-- a piece that is a part is a slice of the source
abbrev pub IsPieceOf : Bor (List ℕ) → ViewPiece → Type 0
IsPieceOf source (Part slice) = IsSliceOf source slice
IsPieceOf source (Joined bytes) = Unit {0}

-- whether bytes were joined for a piece, so that it is no part
abbrev pub is_joined : ViewPiece → Bool
is_joined (Part slice) = false
is_joined (Joined bytes) = true

-- A piece was cut from another: of a part it is a part, of whatever that one is a slice.
pub record IsPieceCutFrom (whole piece : ViewPiece) : Type 0 where
  pub slice : (source : Bor (List ℕ)) → IsPieceOf source whole → IsPieceOf source piece
  pub joined : is_joined piece ≡ is_joined whole
