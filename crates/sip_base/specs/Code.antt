-- Codes by which configured names are found. No answer depends on them.
use Rattle.std.specs.Prelude.{ℕ, ◌*◌, ◌%◌, ◌^◌, bit_xor}

-- a code with one part more (FNV-1a, 64 bits)
unfoldable pub mixed : ℕ → ℕ → ℕ
mixed code part = (bit_xor code part * 1099511628211) % 2 ^ 64
