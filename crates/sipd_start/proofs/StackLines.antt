-- The limits of a process, line by line.
use Rattle.std.proofs.Common.{ℕ, ◌≡◌, List, [], ◌∷◌, Option, Some, None, refl, sym, ap, ◌∙◌}
use Rattle.std.specs.Option.{option_or}
use Rattle.sip_text.specs.Splits.{split_at_byte}
use Rattle.sip_text.specs.TextLines.{lines_of}
use Rattle.sip_text.proofs.TextLines.{line_cut, last_cut}
use Rattle.sipd_start.specs.StackLimit.{too_small, first_small, small_stack}

-- a line that says too small a limit is the answer
pub small_found : (bytes line rest : List ℕ) (n : ℕ) → Some (line, rest) ≡ split_at_byte 10 bytes → Some n ≡ too_small line → Some n ≡ small_stack bytes
small_found bytes line rest n e is = sym (ap first_small (line_cut bytes line rest e).0 ∙ ap (λ found. option_or found (first_small (lines_of rest))) (sym is))

-- and else that is behind it
pub small_behind : (bytes line rest : List ℕ) → Some (line, rest) ≡ split_at_byte 10 bytes → None ≡ too_small line → small_stack rest ≡ small_stack bytes
small_behind bytes line rest e is = sym (ap first_small (line_cut bytes line rest e).0 ∙ ap (λ found. option_or found (first_small (lines_of rest))) (sym is))

option_or-none : (o : Option ℕ) → option_or o None ≡ o
option_or-none None = refl
option_or-none (Some n) = refl

-- the last line
pub small_at_end : (bytes : List ℕ) → None ≡ split_at_byte 10 bytes → too_small bytes ≡ small_stack bytes
small_at_end bytes e =
    let whole : lines_of bytes ≡ bytes ∷ [] = last_cut bytes e in
    sym (ap first_small whole ∙ option_or-none (too_small bytes))
