-- Tags that are made here.
use Rattle.std.specs.Prelude.{ℕ, List, ◌++◌, decimal, codes}
use Rattle.sip_text.specs.Numbers.{hex_text}

-- the boot word in sixteen small hexadecimal digits, a dot, and the number in decimal (this project's profile of RFC 3261 19.3)
abbrev pub to_tag : ℕ → ℕ → List ℕ
to_tag boot number = hex_text boot ++ codes "." ++ decimal number
