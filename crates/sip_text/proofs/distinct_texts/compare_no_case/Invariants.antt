use Rattle.std.proofs.Common.{◌≡◌, drop}
use Rattle.sip_text.specs.Distinct.{order_without_case}
use Rattle.sip_text.proofs.distinct_texts.compare_no_case.Given as goal

-- the rests decide
abbrev pub invariant-loop-byte : goal.invariant-loop-byte
invariant-loop-byte l = order_without_case (drop l.byte-index l.left) l.behind ≡ order_without_case l.fn.left l.fn.right
