-- Fields as their lines stand in a text.
use Rattle.std.specs.Prelude.{◌≡◌, ℕ, ◌+◌, List, ◌++◌, length, codes, Option, IfSome}
use denote.Ref.{Bor}
use Rattle.std.specs.List.{flat_map}
use Rattle.sip_message_fields.specs.declared.field.Field.{Field}
use Rattle.sip_message_fields.specs.FieldName.{spelling}
use Rattle.sip_message_fields.specs.declared.kept_field.KeptField.{KeptField}
use Rattle.sip_message_fields.specs.KeptField.{IsFieldPut, AreFieldsPut}

-- a field with its CRLF: its name in full, `: `, its value (RFC 3261 7.3.1)
abbrev pub line_of : Field → List ℕ
line_of f = spelling f.name ++ codes ": " ++ f.value ++ codes "\r\n"

-- a line, if there is one, is that of a field
abbrev pub IsLineOf : Option (Bor (List ℕ)) → Field → Type 0
IsLineOf line field = IfSome line (λ l. l.now ≡ line_of field)

-- the line of a field begins at a byte of a text, whatever stands before and behind it
pub record IsLineAt (start : ℕ) (field : Field) (kept : KeptField) (end : ℕ) : Type 0 where
  pub ends : end ≡ start + length (line_of field)
  pub put : (before behind : List ℕ) → length before ≡ start → IsFieldPut before field (before ++ line_of field ++ behind) kept

-- the lines of some fields begin at a byte of a text, whatever stands before and behind them
pub record AreLinesAt (start : ℕ) (fields : List Field) (list : List KeptField) (end : ℕ) : Type 0 where
  pub ends : end ≡ start + length (flat_map line_of fields)
  pub put : (before behind : List ℕ) → length before ≡ start → AreFieldsPut before fields (before ++ flat_map line_of fields ++ behind) list
