-- Names of fields found by the length of what is written.
use Rattle.std.specs.Prelude.{◌==◌, ℕ, Bool, List, [], ◌∷◌, length, if◌then◌else◌}
use Rattle.sip_text.specs.Words.{is_same_text}
use Rattle.sip_message_fields.specs.declared.field_name.FieldName.{FieldName}
use Rattle.sip_message_fields.specs.declared.field_name.FieldName.TheVariants.{Other}
use Rattle.sip_message_fields.specs.FieldName.{Known, spelling, known_names}

-- the full spelling and the compact form of known names, each with its name
abbrev pub spellings_of : List Known → List (List ℕ × FieldName)
spellings_of [] = []
spellings_of (k ∷ others) = (spelling k.name, k.name) ∷ (k.compact, k.name) ∷ spellings_of others

-- the spellings of a length
abbrev pub of_length : ℕ → List (List ℕ × FieldName) → List (List ℕ × FieldName)
of_length n [] = []
of_length n (s ∷ others) = if length s.0 == n then s ∷ of_length n others else of_length n others

-- whether a name is spelled so, without case (RFC 3261 7.3.1)
unfoldable pub is_spelled : List ℕ → List ℕ → Bool
is_spelled name spelled = is_same_text name spelled

-- the name of the first spelling that a written name has
abbrev pub spelled_in : List (List ℕ × FieldName) → List ℕ → FieldName
spelled_in [] name = Other name
spelled_in (s ∷ others) name = if is_spelled name s.0 then s.1 else spelled_in others name

-- the name that is written so, of the spellings of a length
unfoldable pub name_of_length : ℕ → List ℕ → FieldName
name_of_length n name = spelled_in (of_length n (spellings_of known_names)) name
