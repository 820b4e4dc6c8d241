use Rattle.std.proofs.Common.{◌≡◌, ◌+◌, drop}
use Rattle.std.specs.List.{position_or_len}
use Rattle.sip_days.specs.Phones.{is_of}
use Rattle.sip_days.proofs.registering.place_of.Given as goal

-- none of those before is of the address
abbrev pub invariant-loop-i : goal.invariant-loop-i
invariant-loop-i l = position_or_len (is_of l.aor) l.rows ≡ l.i + position_or_len (is_of l.aor) (drop l.i l.rows)
