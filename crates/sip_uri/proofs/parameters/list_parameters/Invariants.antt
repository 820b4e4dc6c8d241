use Rattle.std.proofs.Common.{◌≡◌, length}
use Rattle.sip_uri.specs.Reading.{listed_parameters}
use Rattle.sip_uri.proofs.Collecting.{behind}
use Rattle.sip_uri.proofs.parameters.list_parameters.Given as goal

-- the parameters so far, in front of those of the rest, are those of the whole
abbrev pub invariant-loop-part : goal.invariant-loop-part
invariant-loop-part l = behind l.parameters (listed_parameters l.rest) ≡ listed_parameters l.fn.text

abbrev pub decreases-loop-part : goal.decreases-loop-part
decreases-loop-part l = length l.rest
