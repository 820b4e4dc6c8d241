use Rattle.std.proofs.Common.{◌≡◌, drop}
use Rattle.sip_digest.specs.Nonces.{lasting}
use Rattle.sip_digest.specs.Rows.{nonces_in}
use Rattle.sip_digest.proofs.nonces.first_live.Given as goal

-- none so far lives
abbrev pub invariant-loop-place : goal.invariant-loop-place
invariant-loop-place l = lasting l.now (drop l.place (nonces_in l.rows.items)) ≡ lasting l.now (nonces_in l.rows.items)
