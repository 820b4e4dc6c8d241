-- What the lines of a head say, as a view has it: one after the other, each with its folds (RFC 3261 7.3).
use Rattle.std.specs.Prelude.{◌≡◌, ◌≤◌, ℕ, false, List, [], ◌∷◌, ◌++◌, length, Option, Some, option_map}
use denote.Ref.{Bor}
use Rattle.sip_text.specs.declared.span.Span.{Span}
use Rattle.sip_text.specs.Span.{part}
use Rattle.sip_message_fields.specs.declared.field.Field.{Field}
use Rattle.sip_message_fields.specs.declared.field_name.FieldName.{FieldName}
use Rattle.sip_message.specs.declared.filling.Filling.{Filling}
use Rattle.sip_message.specs.Field.{field_of, pieces}
use Rattle.sip_message.specs.HeadContent.{heads_on, before, length_behind}
use Rattle.sip_message.specs.Lines.{lines_at, head_at}

-- the one length if there is one, the fields that are kept, and what follows them
abbrev pub filled_seen : Filling × Bor (List ℕ) → Option ℕ × List Field × List ℕ
filled_seen x = (x.0.length, x.0.fields, x.1.now)

-- a field with a part of a value
abbrev pub item_of : FieldName → List ℕ → Span → Field
item_of name value span = record { name = name; value = part value span }

-- A field was taken: what is kept of it came behind the others.
pub record IsFieldFilled (old : Filling) (field : Field) (new : Filling) : Type 0 where
  pub kept : option_map (λ items. old.fields ++ items) (pieces field) ≡ Some new.fields
  pub next : length_behind old.length field ≡ Some new.length

-- A line was taken: with its folds it writes a field, which was taken.
pub record IsLineFilled (old : Filling) (line after : List ℕ) (new : Filling) (rest : List ℕ) : Type 0 where
  pub whole : List ℕ
  pub field : Field
  pub bytes : heads_on line (lines_at false after) ≡ before (whole ∷ []) (head_at rest)
  pub says : field_of whole ≡ Some field
  pub taken : IsFieldFilled old field new
  pub shorter : length rest ≤ length after
