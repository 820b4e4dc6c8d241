-- A name of letters and dashes at the front of a text, as those of most methods and fields (RFC 3261 20, 25.1).
use Rattle.std.specs.Prelude.{◌≡◌, ◌<◌, ◌≤◌, ℕ, Bool, true, false, ◌||◌, ◌==◌, List, length, take, slice_index}
use Rattle.std.specs.Char.{is_ascii_alphabetic}
use Rattle.std.specs.List.{list_all}
use Rattle.std.specs.Str.{byte}

-- a letter or a `-`
abbrev pub is_letter_or_dash : ℕ → Bool
is_letter_or_dash b = is_ascii_alphabetic b || b == byte "-"

-- a mark stands at this place, and all that stands in front of it, one byte or more, is letters and dashes; the mark is
-- neither, and is one of the first sixteen bytes of a text that has as many
pub record IsNameEnd (bytes : List ℕ) (mark at : ℕ) : Type 0 where
  pub long : 16 ≤ length bytes
  pub early : at < 16
  pub some : 0 < at
  pub letters : list_all is_letter_or_dash (take at bytes) ≡ true
  pub here : slice_index bytes at ≡ mark
  pub ends : is_letter_or_dash mark ≡ false
