use Rattle.std.proofs.Common.{◌≡◌, ◌+◌, drop}
use Rattle.std.specs.List.{position_or_len}
use Rattle.sip_uri_equality.specs.Equality.{same}
use Rattle.sip_location.proofs.candidates.place_of.Given as goal

-- none of those before is equal
abbrev pub invariant-loop-i : goal.invariant-loop-i
invariant-loop-i l = position_or_len (λ b. same b.uri l.uri) l.bindings ≡ l.i + position_or_len (λ b. same b.uri l.uri) (drop l.i l.bindings)
