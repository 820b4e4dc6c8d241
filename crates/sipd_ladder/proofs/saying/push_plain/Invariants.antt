use Rattle.std.proofs.Common.{◌≡◌, ◌++◌, map, take}
use Rattle.sipd_ladder.specs.Saying.{plain}
use Rattle.sipd_ladder.proofs.saying.push_plain.Given as goal

-- the bytes so far are written
abbrev pub invariant-loop-byte : goal.invariant-loop-byte
invariant-loop-byte l = l.out ≡ l.fn.out ++ map plain (take l.byte-index l.text)
