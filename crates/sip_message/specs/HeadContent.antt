-- What the lines of a head say, one after the other (RFC 3261 7.3).
use Rattle.std.specs.Prelude.{◌≡◌, ◌⊎◌, ℕ, Bool, false, List, [], ◌∷◌, ◌++◌, Option, Some, None, option_map, if◌then◌else◌}
use Rattle.std.specs.Option.{option_and_then}
use denote.Ref.{Bor}
use Rattle.sip_text.specs.Words.{decimal_of}
use Rattle.sip_message_fields.specs.declared.field.Field.{Field}
use Rattle.sip_message_fields.specs.declared.field_name.FieldName.{FieldName}
use Rattle.sip_message_fields.specs.FieldName.{is_length}
use Rattle.sip_message_fields.specs.declared.piece.ViewPiece.TheVariants.{Part}
use Rattle.sip_message_fields.specs.Slice.{IsSliceOf, IsCutFrom, IsPieceOf, IsPieceCutFrom}
use Rattle.sip_message.specs.declared.line.WholeLine.{WholeLine}
use Rattle.sip_message.specs.declared.line_fault.LineFault.{LineFault}
use Rattle.sip_message.specs.declared.line_fault.LineFault.TheVariants.{NoMemory}
use Rattle.sip_message.specs.declared.part_field.PartField.{PartField}
use Rattle.sip_message.specs.declared.content.Content.{Content}
use Rattle.sip_message.specs.Line.{line_piece, line_bytes, has_fold}
use Rattle.sip_message.specs.Lines.{lines_at, unfolded_on, folds_on, folds_of, head_at}
use Rattle.sip_message.specs.Field.{field_of, pieces}
use Rattle.sip_message.specs.Parts.{field_seen, fields_seen, joined_values, AreSlicesOf, IsKept, folds_of_head}

-- a field whose value stands in the datagram
abbrev pub part_field : FieldName → Bor (List ℕ) → PartField
part_field name value = record { name = name; value = Part value }

-- what a fault says of what was looked for: memory ran out, or there is none
abbrev pub IsFault : {A : Type 0} → LineFault → Option A → Type 0
IsFault fault said = (fault ≡ NoMemory) ⊎ (said ≡ None)

-- the length, once one more is written; none where it is a second one, or none below 2 ^ 64 (RFC 3261 20.14)
abbrev pub next_length : Option ℕ → List ℕ → Option (Option ℕ)
next_length None value = option_map (λ n. Some n) (decimal_of value)
next_length (Some n) value = None

-- the length, once a field is read behind others
abbrev pub length_behind : Option ℕ → Field → Option (Option ℕ)
length_behind n field = if is_length field.name then next_length n field.value else Some n

-- the length, and what is kept of a field that is read behind others
abbrev pub field_taken : Option ℕ → Field → Option (Option ℕ × List Field)
field_taken n field = option_and_then (λ length. option_map (λ items. (length, items)) (pieces field)) (length_behind n field)

-- the length, and what is kept of the field that a line writes behind others
abbrev pub line_taken : Option ℕ → List ℕ → Option (Option ℕ × List Field)
line_taken n line = option_and_then (field_taken n) (field_of line)

-- A field was taken: what is kept of it came behind the others.
pub record IsFieldTaken (old : Content) (field : PartField) (new : Content) : Type 0 where
  pub kept : IsKept old.fields.items field new.fields.items
  pub length : length_behind old.length (field_seen field) ≡ Some new.length

-- ---- a line with its folds

-- a line and the lines behind it, each with its folds
abbrev pub heads_on : List ℕ → Option (List (List ℕ) × List ℕ) → Option (List (List ℕ) × List ℕ)
heads_on line o = option_map (λ x. (unfolded_on line x.0, x.1)) o

-- whether a line has a fold, and each of the lines behind it
abbrev pub flags_on : Bool → Option (List (List ℕ) × List ℕ) → Option (List Bool)
flags_on has_fold o = option_map (λ x. folds_on has_fold x.0) o

-- whether each line has a fold
abbrev pub flags_at : List ℕ → Option (List Bool)
flags_at bytes = option_map (λ x. folds_of x.0) (lines_at false bytes)

-- lines before those of a head
abbrev pub before : List (List ℕ) → Option (List (List ℕ) × List ℕ) → Option (List (List ℕ) × List ℕ)
before lines o = option_map (λ x. (lines ++ x.0, x.1)) o

abbrev pub flags_before : List Bool → Option (List Bool) → Option (List Bool)
flags_before flags o = option_map (λ more. flags ++ more) o

-- a line with its folds, and what follows them
pub record IsWhole (line after : Bor (List ℕ)) (whole : WholeLine) (rest : Bor (List ℕ)) : Type 0 where
  pub bytes : heads_on line.now (lines_at false after.now) ≡ before (line_bytes whole ∷ []) (head_at rest.now)
  pub folds : flags_on false (lines_at false after.now) ≡ flags_before (has_fold whole ∷ []) (flags_at rest.now)
  pub slice : (source : Bor (List ℕ)) → IsSliceOf source line → IsPieceOf source (line_piece whole)
  pub cut : IsCutFrom after rest

-- A line was taken: with its folds it writes a field, which was taken.
pub record IsLineTaken (old : Content) (line after : Bor (List ℕ)) (new : Content) (rest : Bor (List ℕ)) : Type 0 where
  pub whole : WholeLine
  pub field : PartField
  pub is_whole : IsWhole line after whole rest
  pub says : field_of (line_bytes whole) ≡ Some (field_seen field)
  pub stands : IsPieceCutFrom (line_piece whole) field.value
  pub taken : IsFieldTaken old field new

-- A line was not taken: with its folds it writes no field, or one that may not stand behind the others.
pub record IsLineRefused (length : Option ℕ) (line after : List ℕ) : Type 0 where
  pub whole : List ℕ
  pub more : Option (List (List ℕ) × List ℕ)
  pub bytes : heads_on line (lines_at false after) ≡ before (whole ∷ []) more
  pub none : line_taken length whole ≡ None

-- ---- a head

-- what the lines of a head say, and what follows them
abbrev pub content_seen : Content × Bor (List ℕ) → Option ℕ × List Field × List ℕ
content_seen x = (x.0.length, fields_seen x.0.fields.items, x.1.now)

-- where what a head says stands, and what follows it
pub record IsContentOf (head : Bor (List ℕ)) (content : Content) (rest : Bor (List ℕ)) : Type 0 where
  pub folds : folds_of_head head.now ≡ Some (joined_values content.fields.items)
  pub slices : (source : Bor (List ℕ)) → IsSliceOf source head → AreSlicesOf source content.fields.items
  pub follows : IsCutFrom head rest
