use Rattle.std.proofs.Common.{◌≡◌, ◌++◌, take, drop, length, ap, ◌∙◌}
use Rattle.std.specs.Prelude.{slice_set}
use Rattle.sip_timers.specs.Timers.{without}
use Rattle.sip_timers_wheel.specs.Lists.{list_at}
use Rattle.sip_timers_wheel.specs.Threads.{lists_of, AreHeld}
use Rattle.sip_timers_wheel.proofs.Whole.{held_again, dropped, heads_are, lists_are}
use Rattle.sip_timers_wheel.proofs.slots.Slots.remove.Goals as goal

heads_after : (c : goal.After-remove) → take (c.self.inside.heads).len (c.take_from.new.heads ++ drop (length c.take_from.new.heads) (c.self.inside.heads).items)
    ≡ c.take_from.new.heads
heads_after c = heads_are (c.self.inside.heads).len (c.self.inside.heads).items c.deref_mut.result.now c.take_from.new.heads c.deref_mut.ensures.value
    c.deref_mut.ensures.len c.take_from.auto.heads

held : (c : goal.After-remove) → AreHeld 0 c.remove.new.self c.take_from.new.heads (lists_of c.take_from.new.rows c.take_from.new.heads)
held c = dropped c.take_from.new.rows c.remove.new.self c.take_from.new.heads c.args.key c.take_from.ensures.held c.take_from.ensures.gone c.remove.ensures.updates
    c.remove.ensures.len

pub invariant_of-self : goal.invariant_of-self
invariant_of-self c = rw (heads_after c) (held_again 0 _ _ _ (held c))

pub returns-clause-gone : goal.returns-clause-gone
returns-clause-gone c =
    let before : lists_of (c.self.inside).rows c.deref_mut.result.now ≡ c.args.self.now.lists = ap (λ hs. lists_of (c.self.inside).rows hs) c.deref_mut.ensures.value
    ∙ ap (λ v. v.lists) c.self.view_is in
    ap (λ hs. lists_of c.remove.new.self hs) (heads_after c) ∙ lists_are 0 _ _ _ (held c) ∙ c.take_from.ensures.taken
    ∙ ap (λ ls. slice_set ls c.args.slot (without c.args.key (list_at ls c.args.slot))) before

pub returns-clause-once : goal.returns-clause-once
returns-clause-once c = rw (← c.self.view_is) (c.self.invariant.once c.args.key)
