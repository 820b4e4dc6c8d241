use Rattle.std.proofs.Common.{◌≡◌, Some, drop}
use Rattle.sip_uri.proofs.Dots.{read_on}
use Rattle.sip_uri.specs.Addresses.{number_at}
use Rattle.sip_uri.proofs.addr.number_at.Given as goal

-- what the rest adds to the number so far is the answer
abbrev pub invariant-loop-at : goal.invariant-loop-at
invariant-loop-at l = read_on (Some l.number) (drop l.at l.rest) ≡ number_at l.text
