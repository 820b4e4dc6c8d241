use Rattle.sip_fork.proofs.Ends.{before_is, others_are, past_is}
use Rattle.sip_fork.proofs.ending.have_others_ended.Goals as goal

pub returns-then-place-branches : goal.returns-then-place-branches
returns-then-place-branches c = past_is c.have_ended.result c.args.branches.now c.args.place c.have_ended.ensures c.if-place-branches.true

pub returns-then-before : goal.returns-then-before
returns-then-before c =
    others_are c.have_ended-before.result c.have_ended-then-before.result c.args.branches.now c.args.place c.have_ended-before.ensures c.if-before.true
    c.have_ended-then-before.ensures c.if-place-branches.false

pub returns-else-before : goal.returns-else-before
returns-else-before c = before_is c.have_ended-before.result c.args.branches.now c.args.place c.have_ended-before.ensures c.if-before.false c.if-place-branches.false
