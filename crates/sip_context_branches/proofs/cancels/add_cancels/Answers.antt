use Rattle.std.proofs.Common.{◌∙◌, List, sym, ap}
use Rattle.std.specs.Prelude.{count_by}
use Rattle.model_context.specs.state.declared.branch.Branch.{Branch}
use Rattle.model_context.specs.Branches.{is_cancellable}
use Rattle.sip_context_branches.proofs.Lists.{none_cancelled}
use Rattle.sip_context_branches.proofs.cancels.add_cancels.Goals as goal

pub returns-then-new-eq0 : goal.returns-then-new-eq0
returns-then-new-eq0 c =
    sym (none_cancelled c.args.now c.args.branches.now (ap (λ (v : List Branch). count_by is_cancellable v) (sym c.as_slice.ensures) ∙ sym c.cancellable_count-new.ensures
    ∙ c.if-new-eq0.true))
