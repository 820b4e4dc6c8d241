-- What is told of a file that isn't UTF-8 (this project's profile).
use Rattle.std.specs.Prelude.{ℕ, ◌+◌, ◌-◌, ◌^◌, ◌==◌, Bool, ◌||◌, min, if◌then◌else◌, List, [], ◌∷◌, ◌++◌, take, count_by, nat_eq, codes, decimal}
use Rattle.std.specs.List.{starts_with}
use Rattle.std.specs.Str.Lossy.{utf8_valid_len}

-- LF
abbrev pub is_line_end : ℕ → Bool
is_line_end b = b == 10

-- the number of the line that a place is in, from 1
abbrev pub line_of : List ℕ → ℕ → ℕ
line_of bytes place = min (count_by is_line_end (take place bytes) + 1) (2 ^ 64 - 1)

-- whether bytes begin with the mark of UTF-16 (RFC 2781 3.2)
abbrev pub is_marked : List ℕ → Bool
is_marked bytes = starts_with nat_eq bytes (255 ∷ 254 ∷ []) || starts_with nat_eq bytes (254 ∷ 255 ∷ [])

-- the byte at a place, counted from 1, and its line
abbrev pub first_text : List ℕ → ℕ → List ℕ
first_text bytes place = codes "line " ++ decimal (line_of bytes place) ++ codes ": not UTF-8: byte " ++ decimal (min (place + 1) (2 ^ 64 - 1)) ++ codes " of the file"

-- what stands there in place of UTF-8: UTF-16, by its mark, or else a first byte that can't stand there
abbrev pub found_text : List ℕ → ℕ → List ℕ
found_text bytes place = if is_marked bytes then codes "line 1: the file is in UTF-16, by its first two bytes" else first_text bytes place

-- the line that is told
abbrev pub encoding_text : List ℕ → List ℕ
encoding_text bytes = found_text bytes (utf8_valid_len bytes) ++ codes "; wanted: a text file in UTF-8\n"
