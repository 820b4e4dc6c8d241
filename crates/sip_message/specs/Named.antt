-- A line that begins with a name.
use Rattle.std.specs.Prelude.{◌≡◌, ℕ, true, List, ◌∷◌, ◌++◌}
use Rattle.std.specs.Str.{byte}
use Rattle.sip_text.specs.Words.{is_token_text}

-- A name stands at the front of a line, and `:` at once behind it (RFC 3261 7.3.1).
pub record IsNamed (line name value : List ℕ) : Type 0 where
  pub whole : line ≡ name ++ byte ":" ∷ value
  pub is_token : is_token_text name ≡ true
