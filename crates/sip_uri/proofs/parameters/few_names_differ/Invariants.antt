use Rattle.std.proofs.Common.{◌≡◌, length}
use Rattle.sip_uri.specs.Uri.{names_differ}
use Rattle.sip_uri.proofs.parameters.few_names_differ.Given as goal

-- the rest decides
abbrev pub invariant-loop-first : goal.invariant-loop-first
invariant-loop-first l = names_differ l.rest ≡ names_differ l.fn.parameters

abbrev pub decreases-loop-first : goal.decreases-loop-first
decreases-loop-first l = length l.rest
