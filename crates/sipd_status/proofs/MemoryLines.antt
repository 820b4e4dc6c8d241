-- What the kernel says of a process, line by line.
use Rattle.std.proofs.Common.{ℕ, ◌≡◌, List, [], ◌∷◌, Option, Some, None, refl, sym, ap, ◌∙◌}
use Rattle.std.specs.Option.{option_or}
use Rattle.sip_text.specs.Splits.{split_at_byte}
use Rattle.sip_text.specs.TextLines.{lines_of}
use Rattle.sip_text.proofs.TextLines.{line_cut, last_cut}
use Rattle.sipd_status.specs.Memory.{bytes_of, first_said, memory_said}

-- a line that says it is the answer
pub said_found : (bytes line rest : List ℕ) (n : ℕ) → Some (line, rest) ≡ split_at_byte 10 bytes → Some n ≡ bytes_of line → Some n ≡ memory_said bytes
said_found bytes line rest n e is = sym (ap first_said (line_cut bytes line rest e).0 ∙ ap (λ found. option_or found (first_said (lines_of rest))) (sym is))

-- and else that is behind it
pub said_behind : (bytes line rest : List ℕ) → Some (line, rest) ≡ split_at_byte 10 bytes → None ≡ bytes_of line → memory_said rest ≡ memory_said bytes
said_behind bytes line rest e is = sym (ap first_said (line_cut bytes line rest e).0 ∙ ap (λ found. option_or found (first_said (lines_of rest))) (sym is))

option_or-none : (o : Option ℕ) → option_or o None ≡ o
option_or-none None = refl
option_or-none (Some n) = refl

-- the last line
pub said_at_end : (bytes : List ℕ) → None ≡ split_at_byte 10 bytes → bytes_of bytes ≡ memory_said bytes
said_at_end bytes e =
    let whole : lines_of bytes ≡ bytes ∷ [] = last_cut bytes e in
    sym (ap first_said whole ∙ option_or-none (bytes_of bytes))
