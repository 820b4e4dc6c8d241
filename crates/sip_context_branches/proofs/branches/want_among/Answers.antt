use Rattle.std.proofs.Common.{arith, true}
use Rattle.std.specs.Prelude.{if◌then◌else◌}
use Rattle.model_context.specs.state.declared.branch.Branch.{Branch}
use Rattle.model_context.specs.Branches.{is_same_branch}
use Rattle.sip_context_branches.proofs.Lists.{one_more}
use Rattle.sip_context_branches.proofs.branches.want_among.Goals as goal

pub loop-place-preserved : goal.loop-place-preserved
loop-place-preserved c =
    one_more (λ (x : Branch). if is_same_branch x c.args.branch.now then record x { wants_cancel = true } else x) c.args.branches.now c.loop-place.branches
    c.loop-place.place-index c.want_same.new.place c.place-item.result
    c.loop-place.invariant (omega arith) c.want_same.ensures
