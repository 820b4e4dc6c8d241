use Rattle.std.proofs.Common.{◌≡◌, ◌++◌, map, take}
use Rattle.sipd_capture.specs.Hiding.{crossed}
use Rattle.sipd_capture.proofs.hiding.push_crossed.Given as goal

-- the bytes so far are written
abbrev pub invariant-loop-byte : goal.invariant-loop-byte
invariant-loop-byte l = l.out ≡ l.fn.out ++ map crossed (take l.byte-index l.text)
