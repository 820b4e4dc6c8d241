use Rattle.std.proofs.Common.{List, map, sym, ◌∙◌, ap}
use Rattle.std.specs.Prelude.{filter}
use Rattle.sip_context_branches.specs.state.declared.branch.Branch.{Branch}
use Rattle.sip_context_branches.specs.context_model.Branches.{cancel_branch, is_cancellable}
use Rattle.sip_context.proofs.Settled.{kept_as_they_are, none_by_test}
use Rattle.sip_context.proofs.settling.send_cancels.Goals as goal

pub returns-then-is_empty-clause-request : goal.returns-then-is_empty-clause-request
returns-then-is_empty-clause-request c =
    kept_as_they_are c.args.now c.args.open_request.now
    (sym (c.in_ok-cancels.ensures ∙ ap (λ (bs : List Branch). map (cancel_branch c.args.now) (filter is_cancellable bs)) c.as_slice.ensures)
    ∙ (sym c.as_slice-2.ensures ∙ none_by_test c.as_slice-2.result.now (sym c.is_empty.ensures ∙ c.if-is_empty.true)))
