use Rattle.std.proofs.Common.{◌≡◌, false, drop}
use Rattle.sip_uri.specs.Host.{is_address_rest}
use Rattle.sip_uri.proofs.host.is_address_rest.Given as goal

-- the rest decides
abbrev pub invariant-loop-at : goal.invariant-loop-at
invariant-loop-at l = is_address_rest l.has_begun (drop l.at l.rest) ≡ is_address_rest false l.fn.rest
