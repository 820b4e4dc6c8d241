use Rattle.std.proofs.Common.{take, drop, length, ◌≡◌, [], ◌∷◌, ◌++◌, ap, ◌∙◌, sym}
use Rattle.std.specs.Prelude.{slice_set}
use Rattle.sip_timers.specs.Timers.{keys_with}
use Rattle.sip_timers_wheel.specs.Lists.{concat, list_at}
use Rattle.sip_timers_wheel.specs.Threads.{lists_of, AreHeld}
use Rattle.sip_timers_wheel.proofs.Whole.{held_same, held_again, inserted, inserted_fresh, heads_are, lists_are, absent}
use Rattle.sip_timers_wheel.proofs.slots.Slots.push.Goals as goal

pub invariant_of-self : goal.invariant_of-self
invariant_of-self c = held_again 0 _ _ _ (held_same 0 c.self.inside.rows c.insert.new.self c.self.inside.heads.items
    (lists_of c.self.inside.rows c.self.inside.heads.items) c.self.invariant (ap (λ s. s.slots) c.in_err-key.ensures.err))

spare : (c : goal.After-deref_mut) → AreHeld 1 c.insert.new.self c.self.inside.heads.items (lists_of c.self.inside.rows c.self.inside.heads.items)
spare c = inserted c.self.inside.rows c.insert.new.self c.self.inside.heads.items c.in_ok-key.key _ c.self.invariant c.in_ok-key.ensures.was_vacant
    c.in_ok-key.ensures.updates c.in_ok-key.ensures.len

spare_after : (c : goal.After-self-1) → AreHeld 1 c.insert.new.self c.self.inside.heads.items (lists_of c.self.inside.rows c.self.inside.heads.items)
spare_after c = inserted c.self.inside.rows c.insert.new.self c.self.inside.heads.items c.in_ok-key.key _ c.self.invariant c.in_ok-key.ensures.was_vacant
    c.in_ok-key.ensures.updates c.in_ok-key.ensures.len

pub put_into-requires-clause-held : goal.put_into-requires-clause-held
put_into-requires-clause-held c = rw c.deref_mut.ensures.value (held_again 1 _ _ _ (spare c))

pub put_into-requires-clause-fresh : goal.put_into-requires-clause-fresh
put_into-requires-clause-fresh c = rw c.deref_mut.ensures.value (inserted_fresh c.self.inside.rows c.insert.new.self c.self.inside.heads.items c.in_ok-key.key _
    c.self.invariant c.in_ok-key.ensures.was_vacant c.in_ok-key.ensures.updates c.in_ok-key.ensures.len)

heads_after : (c : goal.After-self-1) → take (c.self.inside.heads).len (c.put_into.new.heads ++ drop (length c.put_into.new.heads) (c.self.inside.heads).items)
    ≡ c.put_into.new.heads
heads_after c = heads_are (c.self.inside.heads).len (c.self.inside.heads).items c.deref_mut.result.now c.put_into.new.heads c.deref_mut.ensures.value
    c.deref_mut.ensures.len c.put_into.auto.heads

pub invariant_of-self-2 : goal.invariant_of-self-2
invariant_of-self-2 c = rw (heads_after c) c.put_into.ensures.held

pub returns-clause-pushed : goal.returns-clause-pushed
returns-clause-pushed c =
    let before : lists_of c.insert.new.self c.deref_mut.result.now ≡ c.args.self.now.lists = ap (λ hs. lists_of c.insert.new.self hs) c.deref_mut.ensures.value
    ∙ lists_are 1 _ _ _ (spare_after c) ∙ ap (λ v. v.lists) c.self.view_is in
    ap (λ hs. lists_of c.put_into.new.rows hs) (heads_after c) ∙ c.put_into.ensures.put _ c.in_ok-key.ensures.updates.changed
    ∙ ap (λ ls. slice_set ls c.args.slot (list_at ls c.args.slot ++ record { key = c.in_ok-key.key; due = c.args.due; name = c.args.name } ∷ [])) before

pub returns-clause-fresh : goal.returns-clause-fresh
returns-clause-fresh c = ap (λ v. keys_with c.in_ok-key.key (concat (v.lists))) (sym c.self.view_is)
    ∙ absent 0 c.self.inside.rows c.self.inside.heads.items (lists_of c.self.inside.rows c.self.inside.heads.items) c.in_ok-key.key c.self.invariant
    c.in_ok-key.ensures.was_vacant
