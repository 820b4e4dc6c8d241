-- The text of an answer that was sent.
use Rattle.std.specs.Prelude.{ℕ, List, [], Option, Some, None}

-- the text that is kept, if any is
abbrev pub text_in : Option (List ℕ) → List ℕ
text_in None = []
text_in (Some bytes) = bytes
