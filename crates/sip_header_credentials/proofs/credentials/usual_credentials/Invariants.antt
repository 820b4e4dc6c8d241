use Rattle.std.specs.Prelude.{option_map}
use Rattle.sip_header.proofs.Collecting.{length_left}
use Rattle.sip_header_credentials.proofs.Placing.{IsReadSo}
use Rattle.sip_header_credentials.proofs.credentials.usual_credentials.Given as goal

-- the items so far have their places
abbrev pub invariant-loop-behind : goal.invariant-loop-behind
invariant-loop-behind l = IsReadSo l.fn.bytes (option_map (λ x. x.now) l.behind) l.places

abbrev pub decreases-loop-behind : goal.decreases-loop-behind
decreases-loop-behind l = length_left (option_map (λ x. x.now) l.behind)
