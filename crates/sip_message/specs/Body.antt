-- Content-Length and the body (RFC 3261 7.4, 18.3, 20.14).
use Rattle.std.specs.Prelude.{◌≡◌, ℕ, Bool, false, nat_lt, List, [], ◌∷◌, length, take, Option, Some, None, option_map, if◌then◌else◌}
use Rattle.sip_text.specs.Words.{decimal_of}
use Rattle.sip_message_fields.specs.declared.field.Field.{Field}
use Rattle.sip_message_fields.specs.FieldName.{is_length}

-- the values of Content-Length
abbrev pub lengths : List Field → List (List ℕ)
lengths [] = []
lengths (field ∷ fields) = if is_length field.name then field.value ∷ lengths fields else lengths fields

-- The body is what follows the empty line, up to the one Content-Length if there is one: bytes past it are dropped (RFC 3261 18.3).
abbrev pub IsBody : List (List ℕ) → List ℕ → List ℕ → Type 0
IsBody [] rest body = body ≡ rest
IsBody (digits ∷ []) rest body = (decimal_of digits ≡ Some (length body)) × (body ≡ take (length body) rest)
IsBody (digits ∷ others ∷ more) rest body = ⊥

-- the one length that is written, if there is one; none if it's no number below 2 ^ 64 or there are several (this project's profile of 20.14)
abbrev pub one_length : List (List ℕ) → Option (Option ℕ)
one_length [] = Some None
one_length (digits ∷ []) = option_map (λ n. Some n) (decimal_of digits)
one_length (digits ∷ others ∷ more) = None

-- the body of some length, if one is written (RFC 3261 18.3)
abbrev pub body_of : Option ℕ → List ℕ → List ℕ
body_of None rest = rest
body_of (Some n) rest = take n rest

-- whether fewer bytes came than the length that is written (RFC 3261 18.3)
abbrev pub is_short : Option ℕ → List ℕ → Bool
is_short None rest = false
is_short (Some n) rest = nat_lt (length rest) n
