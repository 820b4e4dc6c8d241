use Rattle.std.proofs.Common.{[]}
use Rattle.std.proofs.Math.ListN.{replicate}
use Rattle.sip_timers_wheel.specs.Threads.{AreHeld}
use Rattle.sip_timers_wheel.proofs.Whole.{none_held_by, held_again, lists_are}
use Rattle.sip_timers_wheel.proofs.slots.Slots.new.Goals as goal

held : (c : goal.In_ok-vec) → AreHeld 0 c.in_ok-with_capacity.field-0 (c.in_ok-vec.field-0).items (replicate c.args.count [])
held c = none_held_by c.in_ok-with_capacity.field-0 (c.in_ok-vec.field-0).items c.args.count c.in_ok-with_capacity.ensures.empty
    (c.in_ok-vec.ensures.items_if_clones_equal (λ y e. e))

pub invariant_of-result : goal.invariant_of-result
invariant_of-result c = held_again 0 _ _ _ (held c)

pub returns : goal.returns
returns c = lists_are 0 _ _ _ (held c)
