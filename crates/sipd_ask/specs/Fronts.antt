-- What stands before a byte.
use Rattle.std.specs.Prelude.{ℕ, List, Option, Some, None}
use Rattle.sip_text.specs.Splits.{split_at_byte}

-- the first of two parts, or the whole where it isn't split
abbrev pub front_of : List ℕ → Option (List ℕ × List ℕ) → List ℕ
front_of text None = text
front_of text (Some parts) = parts.0

-- what stands before the first of a byte, the whole text where there is none
abbrev pub front_before : ℕ → List ℕ → List ℕ
front_before mark text = front_of text (split_at_byte mark text)
