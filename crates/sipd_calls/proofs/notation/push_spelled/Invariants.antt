use Rattle.std.proofs.Common.{◌≡◌, ◌++◌, take}
use Rattle.std.specs.List.{flat_map}
use Rattle.sipd_calls.specs.Notation.{spelled_byte}
use Rattle.sipd_calls.proofs.notation.push_spelled.Given as goal

-- the bytes so far are written
abbrev pub invariant-loop-byte : goal.invariant-loop-byte
invariant-loop-byte l = l.out ≡ l.fn.out ++ flat_map spelled_byte (take l.byte-index l.text)
