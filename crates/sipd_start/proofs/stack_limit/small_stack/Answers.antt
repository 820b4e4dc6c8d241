use Rattle.std.proofs.Common.{◌∙◌}
use Rattle.sip_text.proofs.TextLines.{less_behind}
use Rattle.sipd_start.proofs.StackLines.{small_behind, small_found}
use Rattle.sipd_start.proofs.stack_limit.small_stack.Goals as goal

pub returns-in-Some-too_small : goal.returns-in-Some-too_small
returns-in-Some-too_small c =
    small_found c.loop-line.rest.now c.in-Some.line.now c.in-Some.behind.now c.in-Some-too_small.bytes c.in-Some.ensures c.in-Some-too_small.ensures
    ∙ c.loop-line.invariant

pub loop-line-smaller : goal.loop-line-smaller
loop-line-smaller c = less_behind c.loop-line.rest.now c.in-Some.line.now c.in-Some.behind.now c.in-Some.ensures

pub loop-line-preserved : goal.loop-line-preserved
loop-line-preserved c =
    small_behind c.loop-line.rest.now c.in-Some.line.now c.in-Some.behind.now c.in-Some.ensures c.in-None.ensures ∙ c.loop-line.invariant
