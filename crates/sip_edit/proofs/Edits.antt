-- Editing the parameters of a Via one after the other.
use Rattle.std.proofs.Common.{◌≡◌, ℕ, ◌+◌, List, length, take, ap, Option, Some, None}
use Rattle.std.specs.Prelude.{◌==◌, not}
use Rattle.std.specs.Str.{byte}
use Rattle.std.proofs.lemmas.List.Folds.{length-prefix_len}
use Rattle.sip_edit.specs.TopVia.{before_equals}

pub front_is : (xs : List ℕ) → take (length (before_equals xs)) xs ≡ before_equals xs
front_is xs = ap (λ (n : ℕ). take n xs) (length-prefix_len (λ b. not (b == byte "=")) xs)

-- how much is left to be cut
abbrev pub bytes_left : Option (List ℕ) → ℕ
bytes_left None = 0
bytes_left (Some text) = length text + 1
