use Rattle.std.proofs.Common.{◌≡◌, [], ◌∷◌, ◌++◌, Some, set, get_or}
use Rattle.slab.specs.Slab.{get}
use Rattle.sip_timers_wheel.specs.declared.row.TimerRow.{TimerRow}
use Rattle.sip_timers_wheel.specs.Threads.{timer_of, lists_of, AreHeld}
use Rattle.sip_timers_wheel.proofs.Holding.{row_at}
use Rattle.sip_timers_wheel.proofs.Whole.{differ_at, fits_at, fresh_at, put_at, held_again, lists_are}
use Rattle.sip_timers_wheel.proofs.slots.put_into.Goals as goal

pub put_behind-requires-clause-differ : goal.put_behind-requires-clause-differ
put_behind-requires-clause-differ c = differ_at 1 c.args.rows.now c.args.heads.now c.args.slot _ c.requires.held c.requires.within

pub put_behind-requires-clause-fresh : goal.put_behind-requires-clause-fresh
put_behind-requires-clause-fresh c = fresh_at c.args.rows.now c.args.heads.now c.args.slot _ c.args.number.0 c.requires.within c.requires.fresh

pub put_behind-requires-clause-fits : goal.put_behind-requires-clause-fits
put_behind-requires-clause-fits c = fits_at c.args.rows.now c.args.heads.now c.args.slot _ c.requires.held c.requires.within

held_after : (c : goal.After-put_behind) → (row : TimerRow) → get c.args.rows.now c.args.number.0 ≡ Some row
    → AreHeld 0 c.put_behind.new.rows (set c.args.heads.now c.args.slot c.put_behind.new.self)
    (set (lists_of c.args.rows.now c.args.heads.now) c.args.slot (get_or (lists_of c.args.rows.now c.args.heads.now) c.args.slot [] ++ timer_of c.args.number.0 row ∷ []))
held_after c row found = put_at c.args.rows.now c.put_behind.new.rows c.args.heads.now c.args.slot _ c.put_behind.new.self (timer_of c.args.number.0 row) c.requires.held
    c.requires.within c.requires.fresh (c.put_behind.ensures.put row found) c.put_behind.ensures.others c.put_behind.ensures.size

pub returns-clause-held : goal.returns-clause-held
returns-clause-held c = let row = row_at c.args.rows.now c.args.number.0 c.requires.stands in held_again 0 _ _ _ (held_after c row.0 row.1)

pub returns-clause-put : goal.returns-clause-put
returns-clause-put c = λ row found. lists_are 0 _ _ _ (held_after c row found)
