use Rattle.std.proofs.Common.{◌≡◌, ◌+◌, drop}
use Rattle.sipd_page_sections.specs.Log.{same_front}
use Rattle.sipd_page_sections.proofs.comparing.same_front.Given as goal

-- those before are the same
abbrev pub invariant-loop-i : goal.invariant-loop-i
invariant-loop-i l = same_front l.log l.lines ≡ l.i + same_front (drop l.i l.log) (drop l.i l.lines)
