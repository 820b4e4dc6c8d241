use Rattle.std.proofs.Common.{◌≡◌, take}
use Rattle.sip_days.specs.Hearing.{hears_with}
use Rattle.sip_days.specs.Changing.{with_each}
use Rattle.sip_days.proofs.hearing.tell_each.Given as goal

abbrev pub invariant-loop-place : goal.invariant-loop-place
invariant-loop-place l = l.calls ≡ with_each (hears_with l.bye l.out) (take l.place-index l.places) l.fn.calls
