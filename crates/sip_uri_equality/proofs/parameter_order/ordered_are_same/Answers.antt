use Rattle.std.proofs.Common.{arith}
use Rattle.sip_uri_equality.proofs.WalkLaws.{rest_in_order, past_left, past_right, past_both, right_ended, left_ended}
use Rattle.sip_uri_equality.proofs.parameter_order.ordered_are_same.Goals as goal

pub returns-then-right_at-right : goal.returns-then-right_at-right
returns-then-right_at-right c =
    right_ended c.args.left.now c.args.right.now c.loop-left_at.left_at c.loop-left_at.right_at _ c.loop-left_at.invariant.same c.may_all_be_ignored.result (omega arith)
    c.may_all_be_ignored.ensures

pub advance_in-requires-clause-left : goal.advance_in-requires-clause-left
advance_in-requires-clause-left c = rest_in_order c.args.left.now c.loop-left_at.left_at (omega arith) c.requires.left

pub advance_in-requires-clause-right : goal.advance_in-requires-clause-right
advance_in-requires-clause-right c = rest_in_order c.args.right.now c.loop-left_at.right_at (omega arith) c.requires.right

pub loop-left_at-preserved-in-Left : goal.loop-left_at-preserved-in-Left
loop-left_at-preserved-in-Left c = record {
  left = omega arith;
  right = omega arith;
  same = past_left c.args.left.now c.args.right.now c.loop-left_at.left_at c.loop-left_at.right_at _ c.loop-left_at.invariant.same c.in-Left.ensures;
}

pub loop-left_at-preserved-in-Right : goal.loop-left_at-preserved-in-Right
loop-left_at-preserved-in-Right c = record {
  left = omega arith;
  right = omega arith;
  same = past_right c.args.left.now c.args.right.now c.loop-left_at.left_at c.loop-left_at.right_at _ c.loop-left_at.invariant.same c.in-Right.ensures;
}

pub loop-left_at-preserved : goal.loop-left_at-preserved
loop-left_at-preserved c = record {
  left = omega arith;
  right = omega arith;
  same = past_both c.args.left.now c.args.right.now c.loop-left_at.left_at c.loop-left_at.right_at _ c.loop-left_at.invariant.same c.in-Both.ensures;
}

pub returns : goal.returns
returns c =
    left_ended c.args.left.now c.args.right.now c.loop-left_at.left_at c.loop-left_at.right_at _ c.loop-left_at.invariant.same c.may_all_be_ignored-2.result (omega arith)
    c.may_all_be_ignored-2.ensures
