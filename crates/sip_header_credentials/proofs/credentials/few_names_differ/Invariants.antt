use Rattle.std.proofs.Common.{◌≡◌, drop}
use Rattle.sip_header_credentials.specs.Credentials.{names_differ}
use Rattle.sip_header_credentials.proofs.credentials.few_names_differ.Given as goal

-- the rest decides
abbrev pub invariant-loop-at : goal.invariant-loop-at
invariant-loop-at l = names_differ (drop l.at l.items) ≡ names_differ l.fn.items
