-- The fields that lines write, and those of them that a message keeps (RFC 3261 7.3).
use Rattle.std.specs.Prelude.{◌≡◌, ℕ, true, List, [], ◌∷◌, ◌++◌, map, Option, Some, None, option_map, if◌then◌else◌}
use Rattle.std.specs.Option.{option_and_then}
use Rattle.std.specs.List.{AllByRecursion, list_all}
use Rattle.std.specs.Str.{byte}
use Rattle.sip_text_runs.specs.TextRun.{is_text}
use Rattle.sip_text.specs.Words.{is_token_text}
use Rattle.sip_text.specs.Lists.{is_blank, trimmed, end_trimmed, cut}
use Rattle.sip_message_fields.specs.declared.field.Field.{Field}
use Rattle.sip_text.specs.Splits.{split_at_byte}
use Rattle.sip_message_fields.specs.FieldName.{name_of, is_length, is_list}

-- A line writes a field: a name, blanks, `:`, and a value, which is trimmed of blanks (RFC 3261 7.3.1).
pub record IsField (line : List ℕ) (field : Field) : Type 0 where
  pub written : List ℕ
  pub blanks : List ℕ
  pub value : List ℕ
  pub whole : line ≡ (written ++ blanks) ++ byte ":" ∷ value
  pub is_token : is_token_text written ≡ true
  pub are_blank : AllByRecursion (λ b. is_blank b ≡ true) blanks
  pub is_text : list_all is_text value ≡ true
  pub is_name : field.name ≡ name_of written
  pub is_value : field.value ≡ trimmed value

-- a field from what stands before its `:` and behind it
abbrev pub field_from : List ℕ → List ℕ → Option Field
field_from front value =
    if is_token_text (end_trimmed front) then
    (if list_all is_text value then Some (record { name = name_of (end_trimmed front); value = trimmed value }) else None)
    else None

-- the field that a line writes, cut at its first `:`
abbrev pub field_of : List ℕ → Option Field
field_of line = option_and_then (λ x. field_from x.0 x.1) (split_at_byte (byte ":") line)

-- the fields that lines write, if each line writes one
abbrev pub entries_of : List (List ℕ) → Option (List Field)
entries_of [] = Some []
entries_of (line ∷ lines) = option_and_then (λ field. option_map (λ fields. field ∷ fields) (entries_of lines)) (field_of line)

-- What is kept of a field: nothing of a Content-Length, since the written form gives the length anew (this project's profile), and one
-- field for each item of a list (RFC 3261 7.3.1).
abbrev pub pieces : Field → Option (List Field)
pieces field =
    if is_length field.name then Some []
    else if is_list field.name then option_map (λ items. map (λ item. record field { value = item }) items) (cut field.value)
    else Some (field ∷ [])

-- the fields that are kept of some
abbrev pub kept : List Field → Option (List Field)
kept [] = Some []
kept (field ∷ fields) = option_and_then (λ front. option_map (λ rest. front ++ rest) (kept fields)) (pieces field)
