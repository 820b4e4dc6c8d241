use Rattle.std.proofs.Common.{◌≡◌, [], set, get_or, is_some, ap, ◌∙◌}
use Rattle.slab.specs.Slab.{get}
use Rattle.sip_timers.specs.Timers.{keys_with, without}
use Rattle.sip_timers_wheel.specs.Lists.{concat}
use Rattle.sip_timers_wheel.specs.Threads.{lists_of, AreHeld}
use Rattle.sip_timers_wheel.proofs.Whole.{differ_at, taken_at, key_is_gone, held_again, lists_are, gone_everywhere, row_in_slot}
use Rattle.sip_timers_wheel.proofs.slots.take_from.Goals as goal

pub take_out-requires-clause-differ : goal.take_out-requires-clause-differ
take_out-requires-clause-differ c = differ_at 0 c.args.rows.now c.args.heads.now c.args.slot _ c.requires.held c.requires.within

held_after : (c : goal.After-take_out) → AreHeld 1 c.take_out.new.rows (set c.args.heads.now c.args.slot c.take_out.new.self)
    (set (lists_of c.args.rows.now c.args.heads.now) c.args.slot (without c.args.number.0 (get_or (lists_of c.args.rows.now c.args.heads.now) c.args.slot [])))
held_after c = taken_at c.args.rows.now c.take_out.new.rows c.args.heads.now c.args.slot _ c.take_out.new.self c.args.number.0 c.requires.held c.requires.within
    c.requires.present c.take_out.ensures.taken c.take_out.ensures.others c.take_out.ensures.size

row_after : (c : goal.After-take_out) → get c.take_out.new.rows c.args.number.0 ≡ get c.args.rows.now c.args.number.0
row_after c = c.take_out.ensures.others c.args.number.0 (key_is_gone c.args.number.0 _)

pub returns-clause-held : goal.returns-clause-held
returns-clause-held c = held_again 1 _ _ _ (held_after c)

pub returns-clause-taken : goal.returns-clause-taken
returns-clause-taken c = lists_are 1 _ _ _ (held_after c)

pub returns-clause-gone : goal.returns-clause-gone
returns-clause-gone c = ap (λ ls. keys_with c.args.number.0 (concat ls)) (lists_are 1 _ _ _ (held_after c))
    ∙ gone_everywhere 0 c.args.rows.now c.args.heads.now (lists_of c.args.rows.now c.args.heads.now) c.args.slot c.args.number.0 c.requires.held c.requires.within
    c.requires.present

pub returns-clause-stands : goal.returns-clause-stands
returns-clause-stands c = ap is_some (row_after c) ∙ row_in_slot 0 c.args.rows.now c.args.heads.now (lists_of c.args.rows.now c.args.heads.now) c.args.slot
    c.args.number.0 c.requires.held c.requires.present

pub returns-clause-row : goal.returns-clause-row
returns-clause-row c = row_after c
