use Rattle.std.proofs.Common.{map, filter, sym, ap, ◌∙◌}
use Rattle.std.proofs.lemmas.List.{nil_from_length}
use Rattle.std.proofs.lemmas.List.Sums.{length-filter}
use Rattle.model_context.specs.Branches as Contexts
use Rattle.sip_context_branches.proofs.cancels.new_cancels.Goals as goal

pub returns-then-count-eq0 : goal.returns-then-count-eq0
returns-then-count-eq0 c =
    let none = nil_from_length (filter Contexts.is_cancellable c.args.branches.now)
    (length-filter Contexts.is_cancellable c.args.branches.now ∙ sym c.cancellable_count-count.ensures ∙ c.if-count-eq0.true) in
    c.new.ensures ∙ sym (ap (map (Contexts.cancel_branch c.args.now)) none)
