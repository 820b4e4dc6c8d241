use Rattle.std.proofs.Common.{◌≡◌, take}
use Rattle.std.specs.Prelude.{filter}
use Rattle.sip_days.specs.Changing.{holds_at, is_open}
use Rattle.sip_days.proofs.hearing.still_open.Given as goal

abbrev pub invariant-loop-place : goal.invariant-loop-place
invariant-loop-place l = l.left ≡ filter (holds_at is_open l.calls) (take l.place-index l.places)
