-- The bytes that mark where a list may be cut (RFC 3261 7.3.1, 25.1).
use Rattle.std.specs.Prelude.{ℕ, ◌-◌, Bool, not, ◌&&◌, ◌||◌, ◌==◌, nat_lt, List, length, drop, slice_index}
use Rattle.std.specs.List.{list_all}
use Rattle.std.specs.Str.{byte}

-- neither a comma nor what begins quoted text or a bracket
abbrev pub is_unmarked : ℕ → Bool
is_unmarked b = not (b == byte "," || b == byte "\"" || b == byte "<")

-- a `<` at the front and a `>` at the end, and nothing marked between
abbrev pub is_bracketed : List ℕ → Bool
is_bracketed value =
    slice_index value 0 == byte "<" && slice_index value (length value - 1) == byte ">" && list_all is_unmarked (drop 1 value)

-- a value that is plainly one item: it begins and ends with a byte above the space, and has nothing marked, or is one pair
-- of brackets
abbrev pub is_plain_item : List ℕ → Bool
is_plain_item value =
    nat_lt 32 (slice_index value 0) && nat_lt 32 (slice_index value (length value - 1)) && (list_all is_unmarked value || is_bracketed value)
