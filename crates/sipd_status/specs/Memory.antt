-- How much memory a process has, as the kernel says it (`/proc/self/status`, proc(5)): a name, blanks, and kilobytes in front of ` kB`.
use Rattle.std.specs.Prelude.{ℕ, ◌*◌, ◌-◌, ◌^◌, min, List, [], ◌∷◌, length, drop, nat_eq, codes, if◌then◌else◌, Option, Some, None, option_map, option_and_then}
use Rattle.std.specs.Option.{option_or}
use Rattle.std.specs.List.{starts_with}
use Rattle.sip_text.specs.Lists.{front_trimmed}
use Rattle.sip_text.specs.Numbers.{plain_decimal_of}
use Rattle.sip_text.specs.Splits.{split_at_byte}
use Rattle.sip_text.specs.TextLines.{lines_of}

-- what stands behind a front of a line, where the line begins with it
abbrev pub behind : List ℕ → List ℕ → Option (List ℕ)
behind front line = if starts_with nat_eq line front then Some (drop (length front) line) else None

-- kilobytes as bytes, at most the greatest that a u64 holds
abbrev pub bytes_in : ℕ → ℕ
bytes_in kilobytes = min (kilobytes * 1024) (2 ^ 64 - 1)

-- the number that stands in front of the next blank
abbrev pub first_number : List ℕ × List ℕ → Option ℕ
first_number parts = option_map bytes_in (plain_decimal_of parts.0)

abbrev pub number_behind : List ℕ → Option ℕ
number_behind rest = option_and_then first_number (split_at_byte 32 (front_trimmed rest))

-- how many bytes a line says
abbrev pub bytes_of : List ℕ → Option ℕ
bytes_of line = option_and_then number_behind (behind (codes "VmRSS:") line)

-- what the first of some lines says that says it
abbrev pub first_said : List (List ℕ) → Option ℕ
first_said [] = None
first_said (line ∷ lines) = option_or (bytes_of line) (first_said lines)

-- what a text says, line by line
abbrev pub memory_said : List ℕ → Option ℕ
memory_said text = first_said (lines_of text)
