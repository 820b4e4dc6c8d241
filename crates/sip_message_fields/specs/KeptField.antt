-- Fields whose bytes stand in one store.
use Rattle.std.specs.Prelude.{◌≡◌, ℕ, List, map, All}
use Rattle.sip_text.specs.declared.span.Span.{Span}
use Rattle.sip_text.specs.Span.{part, IsWithin}
use Rattle.sip_message_fields.specs.declared.field.Field.{Field}
use Rattle.sip_message_fields.specs.KnownName.{name_seen}
use Rattle.sip_message_fields.specs.declared.kept_field.KeptField.{KeptField}

-- the field that is kept so in a store
abbrev pub field_kept : List ℕ → KeptField → Field
field_kept bytes kept = record { name = name_seen kept.known (part bytes kept.spelling); value = part bytes kept.value }

-- its bytes lie in the store
pub record IsStored (bytes : List ℕ) (kept : KeptField) : Type 0 where
  pub spelling : IsWithin kept.spelling bytes
  pub value : IsWithin kept.value bytes

-- what stood in a store stays where it is
pub record Keeps (old new : List ℕ) : Type 0 where
  pub within : (span : Span) → IsWithin span old → IsWithin span new
  pub bytes : (span : Span) → IsWithin span old → part new span ≡ part old span

-- bytes were put into a store, and the span names them
pub record IsPut (old more new : List ℕ) (span : Span) : Type 0 where
  pub bytes : part new span ≡ more
  pub within : IsWithin span new
  pub keeps : Keeps old new

-- a field was put into a store
pub record IsFieldPut (old : List ℕ) (field : Field) (new : List ℕ) (kept : KeptField) : Type 0 where
  pub same : field_kept new kept ≡ field
  pub within : IsStored new kept
  pub keeps : Keeps old new

-- fields were put into a store
pub record AreFieldsPut (old : List ℕ) (fields : List Field) (new : List ℕ) (list : List KeptField) : Type 0 where
  pub same : map (field_kept new) list ≡ fields
  pub within : All (IsStored new) list
  pub keeps : Keeps old new
