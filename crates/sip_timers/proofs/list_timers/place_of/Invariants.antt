use Rattle.std.proofs.Common.{◌≡◌, ◌+◌, drop}
use Rattle.sip_timers.specs.Timers.{place_at}
use Rattle.sip_timers.proofs.list_timers.place_of.Given as goal

abbrev pub invariant-loop-i : goal.invariant-loop-i
invariant-loop-i l = place_at l.due l.rows ≡ l.i + place_at l.due (drop l.i l.rows)
