use Rattle.std.proofs.Common.{◌-◌, sym, ◌∙◌, arith}
use Rattle.sip_text.proofs.Differing.{some_stands_twice, differ_from_neighbours}
use Rattle.sip_text.proofs.distinct_texts.neighbours_differ.Goals as goal

pub returns-then-same_no_case : goal.returns-then-same_no_case
returns-then-same_no_case c = some_stands_twice c.args.texts.now (c.loop-later.later - 1) c.loop-later.later _ _ (omega arith) (omega arith)
    (sym c.same_no_case.ensures ∙ c.if-same_no_case.true)

pub returns : goal.returns
returns c = differ_from_neighbours c.args.texts.now c.requires (λ k h. c.loop-later.invariant k (omega arith))
