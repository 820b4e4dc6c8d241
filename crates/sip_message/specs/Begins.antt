-- The first part of a line with folds.
use Rattle.std.specs.Prelude.{◌≡◌, ℕ, true, List, ◌++◌, length, take}
use Rattle.sip_text.specs.Words.{is_token_text}

-- A token at the front of bytes stands at the front of their first part.
pub record Begins (first bytes : List ℕ) : Type 0 where
  pub token : (name rest : List ℕ) → bytes ≡ name ++ rest → is_token_text name ≡ true → take (length name) first ≡ name
