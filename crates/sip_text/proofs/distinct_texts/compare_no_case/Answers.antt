use Rattle.std.proofs.Common.{arith}
use Rattle.std.proofs.lemmas.Option.{MatchOption-at_none}
use Rattle.sip_text.proofs.Differing.{order_at_end}
use Rattle.sip_text.proofs.distinct_texts.compare_no_case.Goals as goal

pub returns-in_default : goal.returns-in_default
returns-in_default c = order_at_end c.args.left.now c.loop-byte.behind.now c.args.right.now c.loop-byte.byte-index (omega arith)
    (MatchOption-at_none _ _ c.in_default.is c.split_first.ensures.cases) c.loop-byte.invariant
