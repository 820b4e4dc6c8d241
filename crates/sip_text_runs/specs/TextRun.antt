-- The bytes of a run: what may stand in a value, and what may stand in a Request-URI (RFC 3261 25.1).
use Rattle.std.specs.Prelude.{ℕ, Bool, not, ◌||◌, ◌&&◌, ◌==◌, nat_le}
use Rattle.std.specs.Str.{byte}

-- neither a control character other than tab nor DEL (this project's profile of TEXT-UTF8 in RFC 3261 25.1)
abbrev pub is_text : ℕ → Bool
is_text b = (nat_le 32 b && nat_le b 126) || b == 9 || nat_le 128 b

-- one of these that is no tab
abbrev pub is_text_but_tab : ℕ → Bool
is_text_but_tab b = is_text b && not (b == byte "\t")

-- a byte from `!` to `~` (VCHAR of RFC 2234 6.1, which RFC 3261 25.1 cites)
abbrev pub is_visible : ℕ → Bool
is_visible b = nat_le 33 b && nat_le b 126
