use Rattle.std.proofs.lemmas.Option.{get_or_from_slice_get, slice_get_within}
use Rattle.sip_fork.proofs.keeping.places_hold_branches.Goals as goal

pub returns : goal.returns
returns c = λ r place b is. (place, slice_get_within r.branches place b is, get_or_from_slice_get r.branches place b b is)
