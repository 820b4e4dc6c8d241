use Rattle.std.proofs.Common.{◌≡◌, ◌-◌, true, length, refl, arith}
use Rattle.sip_text_runs.proofs.Beginnings.{part_same, same_all}
use Rattle.sip_text_runs.proofs.begins.begins_with.Goals as goal

pub returns-then-not-same_lanes : goal.returns-then-not-same_lanes
returns-then-not-same_lanes c = (
  λ e. absurd cc,
  λ whole.
      let same : c.same_lanes.result ≡ true = c.same_lanes.ensures.1 (part_same c.args.value.now c.args.text.now c.by_lanes.seen whole (omega arith)) in
      absurd cc,
)

pub returns : goal.returns
returns c = (
  λ same. same_all c.args.value.now c.args.text.now c.by_lanes.seen (length c.args.text.now - 16) c.if-length-lt-LANES.false refl c.by_lanes-test.false
      c.by_lanes.invariant (c.same_lanes-2.ensures.0 same),
  λ whole. c.same_lanes-2.ensures.1 (part_same c.args.value.now c.args.text.now (length c.args.text.now - 16) whole (omega arith)),
)
