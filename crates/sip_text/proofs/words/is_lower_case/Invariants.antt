use Rattle.std.proofs.Common.{◌≡◌, drop}
use Rattle.std.specs.Prelude.{◌==◌}
use Rattle.std.specs.Char.{to_ascii_lowercase}
use Rattle.std.specs.List.{list_all}
use Rattle.sip_text.proofs.words.is_lower_case.Given as goal

-- the rest decides
abbrev pub invariant-loop-byte : goal.invariant-loop-byte
invariant-loop-byte l = list_all (λ b. to_ascii_lowercase b == b) (drop l.byte-index l.text) ≡ list_all (λ b. to_ascii_lowercase b == b) l.text
