use Rattle.std.proofs.Common.{◌≡◌, length}
use Rattle.sip_request.proofs.request.blank_keys.Given as goal

abbrev pub invariant-loop-place : goal.invariant-loop-place
invariant-loop-place l = length l.keys ≡ l._place
