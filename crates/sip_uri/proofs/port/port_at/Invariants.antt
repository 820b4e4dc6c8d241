use Rattle.sip_uri.proofs.Ports.{WritesAt}
use Rattle.sip_uri.proofs.port.port_at.Given as goal

-- the bytes so far are digits of that number
abbrev pub invariant-loop-at : goal.invariant-loop-at
invariant-loop-at l = WritesAt l.text l.at l.number
