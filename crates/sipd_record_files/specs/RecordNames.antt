-- The files of a folder of records: `NUMBER.record`, with its configuration in `NUMBER.toml`, the number being milliseconds of UTC
-- since 1970 (this project's profile).
use Rattle.std.specs.Prelude.{ℕ, ◌+◌, ◌-◌, ◌*◌, ◌^◌, ◌==◌, ◌&&◌, nat_le, nat_lt, Bool, false, max, min, List, ◌++◌, codes, decimal, if◌then◌else◌, Option, Some, None, option_and_then}
use Rattle.std.specs.List.{list_any}
use Rattle.std.specs.Str.{bytes_eq}
use Rattle.sip_text.specs.Numbers.{plain_decimal_of}
use Rattle.sip_text.specs.Splits.{split_at_byte}

-- the number in front of the kind of a file
abbrev pub number_of_parts : List ℕ → List ℕ × List ℕ → Option ℕ
number_of_parts kind parts = if bytes_eq parts.1 kind then plain_decimal_of parts.0 else None

-- the number of a file of a kind
abbrev pub file_number : List ℕ → List ℕ → Option ℕ
file_number kind name = option_and_then (number_of_parts kind) (split_at_byte 46 name)

-- the newer one of two files, by their numbers, where there are any
abbrev pub newer : Option ℕ → Option ℕ → Option ℕ
newer None other = other
newer (Some n) None = Some n
newer (Some n) (Some m) = Some (max n m)

-- the number of a new record: the moment, or one more than the number of the newest one, if that is more; 2^64 - 1 is the last
abbrev pub next_number : Option ℕ → ℕ → ℕ
next_number None now = now
next_number (Some newest) now = max now (min (newest + 1) (2 ^ 64 - 1))

-- `FOLDER/NUMBER.KIND`
abbrev pub name_of : List ℕ → ℕ → List ℕ → List ℕ
name_of folder number kind = folder ++ (codes "/" ++ (decimal number ++ (codes "." ++ kind)))

-- whether another record is newer than a file of this number, and began at a moment or before it
abbrev pub has_begun : ℕ → ℕ → ℕ → Bool
has_begun number moment other = nat_lt number other && nat_le other moment

-- Whether a file of this number goes, where records of these numbers are kept for so many days: a newer one began before these, so that all that it
-- holds came earlier; 0 keeps all.
abbrev pub goes : ℕ → ℕ → List ℕ → ℕ → Bool
goes days now numbers number = if days == 0 then false else list_any (has_begun number (now - days * 86400000)) numbers
