-- The parts of a datagram, with their places in it.
use Rattle.std.specs.Prelude.{◌≡◌, ℕ, Bool, false, List, [], ◌∷◌, ◌++◌, map, Option, Some, option_map}
use Rattle.std.specs.Option.{option_and_then, unwrap_or}
use Rattle.std.specs.List.{AllByRecursion}
use denote.Ref.{Bor}
use Rattle.sip_text.specs.declared.span.Span.{Span}
use Rattle.sip_text.specs.Span.{part}
use Rattle.sip_message_fields.specs.declared.field.Field.{Field}
use Rattle.sip_message_form.specs.declared.message.Message.{Message}
use Rattle.sip_message_form.specs.ViewStart.{start_seen}
use Rattle.sip_message_fields.specs.Piece.{bytes_of}
use Rattle.sip_message_fields.specs.Slice.{IsSliceOf, IsPieceOf, is_joined}
use Rattle.sip_message.specs.declared.part_field.PartField.{PartField}
use Rattle.sip_message.specs.declared.datagram_parts.DatagramParts.{DatagramParts}
use Rattle.sip_message.specs.Lines.{after_blanks, line_at, lines_at, unfolded, folds_of}
use Rattle.sip_message.specs.Field.{entries_of, pieces}

-- the field that stands so in a datagram
abbrev pub field_seen : PartField → Field
field_seen field = record { name = field.name; value = bytes_of field.value }

abbrev pub fields_seen : List PartField → List Field
fields_seen fields = map field_seen fields

-- the message of the parts, and whether its body is short
abbrev pub parts_seen : DatagramParts → Bool × Message
parts_seen parts = (parts.is_short, record { start = start_seen parts.start; fields = fields_seen parts.fields.items; body = parts.body.now })

-- of which values bytes were joined
abbrev pub joined_values : List PartField → List Bool
joined_values fields = map (λ field. is_joined field.value) fields

-- values that are parts are slices of the source
abbrev pub AreSlicesOf : Bor (List ℕ) → List PartField → Type 0
AreSlicesOf source fields = AllByRecursion (λ field. IsPieceOf source field.value) fields

-- whether the line of each field that is kept has a fold, where each line has one or none (RFC 3261 7.3.1): a list is kept as its items
abbrev pub folds_kept : List Field → List Bool → List Bool
folds_kept [] folds = []
folds_kept (field ∷ fields) [] = []
folds_kept (field ∷ fields) (fold ∷ folds) = map (λ item. fold) (unwrap_or (pieces field) []) ++ folds_kept fields folds

-- whether the line of each field that a head says has a fold
abbrev pub folds_of_head : List ℕ → Option (List Bool)
folds_of_head head = option_and_then (λ lines. option_map (λ entries. folds_kept entries (folds_of lines.0))
    (entries_of (unfolded lines.0))) (lines_at false head)

-- whether the line of each field that bytes say has a fold (RFC 3261 7.3.1)
abbrev pub folds_said : List ℕ → Option (List Bool)
folds_said bytes = option_and_then (λ first. folds_of_head first.1) (line_at (after_blanks bytes))

-- Parts stand in a datagram: the value of each field whose line has no fold is a slice of the datagram, that of the others was joined,
-- and the body is a slice.
pub record ArePartsOf (datagram : Bor (List ℕ)) (parts : DatagramParts) : Type 0 where
  pub folds : folds_said datagram.now ≡ Some (joined_values parts.fields.items)
  pub slices : AreSlicesOf datagram parts.fields.items
  pub body : IsSliceOf datagram parts.body

-- ---- of the steps

-- a field was kept behind others, an item of a list as a field of its own
pub record IsKept (old : List PartField) (field : PartField) (new : List PartField) : Type 0 where
  pub seen : option_map (λ items. fields_seen old ++ items) (pieces (field_seen field)) ≡ Some (fields_seen new)
  pub folds : joined_values new ≡ joined_values old ++ map (λ item. is_joined field.value) (unwrap_or (pieces (field_seen field)) [])
  pub slices : (source : Bor (List ℕ)) → IsPieceOf source field.value → AreSlicesOf source old → AreSlicesOf source new

-- some parts of a field's value were kept behind others
pub record AreItemsKept (old : List PartField) (field : PartField) (spans : List Span) (new : List PartField) : Type 0 where
  pub seen : fields_seen new ≡ fields_seen old ++ map (λ span. record (field_seen field) { value = part (bytes_of field.value) span }) spans
  pub folds : joined_values new ≡ joined_values old ++ map (λ span. is_joined field.value) spans
  pub slices : (source : Bor (List ℕ)) → IsPieceOf source field.value → AreSlicesOf source old → AreSlicesOf source new
