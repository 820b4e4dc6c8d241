-- Methods by their letters. They are told apart by case, and all that are in use are in capitals (RFC 3261 7.1), so one that has a
-- small letter is seldom meant.
use Rattle.std.specs.Prelude.{ℕ, Bool, List}
use Rattle.std.specs.List.{list_any}
use Rattle.std.specs.Char.{is_ascii_lowercase}

-- whether a letter of a method is a small one
abbrev pub has_small_letter : List ℕ → Bool
has_small_letter method = list_any is_ascii_lowercase method
