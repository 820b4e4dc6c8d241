use Rattle.std.proofs.Common.{◌≡◌, ◌++◌, take}
use Rattle.std.specs.List.{flat_map}
use Rattle.sipd_ask.specs.Show.{domain_line}
use Rattle.sipd_ask.proofs.showing.put_domains.Given as goal

-- the lines so far are written
abbrev pub invariant-loop-domain : goal.invariant-loop-domain
invariant-loop-domain l = l.text ≡ l.fn.text ++ flat_map domain_line (take l.domain-index l.domains)
