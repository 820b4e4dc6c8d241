-- The tags of a text of HTML.
use Rattle.std.specs.Prelude.{ℕ, ◌==◌, List, count_by}
use Rattle.std.specs.Str.{byte}

-- how many tags a text has: each begins with this byte
abbrev pub tags_in : List ℕ → ℕ
tags_in text = count_by (λ b. b == byte "<") text
