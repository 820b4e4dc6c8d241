use Rattle.sip_request.proofs.Ending.{ends_nowhere, ends_there}
use Rattle.sip_request.proofs.request.end_at.Goals as goal

pub returns-then-place-branches : goal.returns-then-place-branches
returns-then-place-branches c = ends_there c.args.branches.now c.args.place c.index-branches-place.result c.if-place-branches.true

pub returns-else-place-branches : goal.returns-else-place-branches
returns-else-place-branches c = ends_nowhere c.args.branches.now c.args.place c.if-place-branches.false
