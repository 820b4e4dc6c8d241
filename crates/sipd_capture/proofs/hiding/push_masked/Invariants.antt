use Rattle.std.proofs.Common.{◌≡◌, ◌++◌, map, take}
use Rattle.sipd_capture.specs.Hiding.{masked}
use Rattle.sipd_capture.proofs.hiding.push_masked.Given as goal

-- the bytes so far are written
abbrev pub invariant-loop-byte : goal.invariant-loop-byte
invariant-loop-byte l = l.out ≡ l.fn.out ++ map masked (take l.byte-index l.text)
