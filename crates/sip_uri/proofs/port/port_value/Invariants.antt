use Rattle.std.proofs.Common.{◌≡◌, ◌≤◌, drop}
use Rattle.sip_uri.proofs.Ports.{port_on}
use Rattle.sip_uri.specs.Port.{port_value}
use Rattle.sip_uri.proofs.port.port_value.Given as goal

-- what the rest adds to the number so far is the answer
abbrev pub invariant-loop-digit : goal.invariant-loop-digit
invariant-loop-digit l = (port_on l.number (drop l.digit-index l.digits) ≡ port_value l.digits) × (l.number ≤ 65535)
