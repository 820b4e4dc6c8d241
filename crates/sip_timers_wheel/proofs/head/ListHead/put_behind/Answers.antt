use Rattle.std.proofs.Common.{◌+◌, ◌≤◌, length, Option, Some, None, refl, ◌∙◌, sym, subst, arith}
use Rattle.slab.specs.Slab.{Updates, slab_len}
use Rattle.sip_timers_wheel.specs.declared.row.RowNumber.{RowNumber}
use Rattle.sip_timers_wheel.specs.Threads.{list_of, NextIs}
use Rattle.sip_timers_wheel.proofs.Holding.{last_stands, known_stands, known_second_stands, same_row, held_of_row, last_stands_beside, held_put, others_put}
use Rattle.sip_timers_wheel.proofs.head.ListHead.put_behind.Goals as goal

pub stays_rising-is_rising-requires : goal.stays_rising-is_rising-requires
stays_rising-is_rising-requires c = last_stands c.args.rows.now c.args.self.now (list_of c.args.rows.now c.args.self.now) c.requires.held

pub remember-requires-clause-least : goal.remember-requires-clause-least
remember-requires-clause-least c = known_stands c.args.rows.now c.args.self.now (list_of c.args.rows.now c.args.self.now) c.requires.held

pub remember-requires-clause-second : goal.remember-requires-clause-second
remember-requires-clause-second c = known_second_stands c.args.rows.now c.args.self.now (list_of c.args.rows.now c.args.self.now) c.requires.held

pub set_next-requires : goal.set_next-requires
set_next-requires c = rw c.remember.ensures.ends.1 (last_stands_beside c.args.rows.now c.set_beside.new.rows c.args.self.now (list_of c.args.rows.now c.args.self.now)
    c.args.number.0 _ c.requires.held c.requires.fresh (c.set_beside.ensures.beside c.index-row.result.now c.index-row.ensures))

pub returns-clause-put : goal.returns-clause-put
returns-clause-put c =
    let ts = list_of c.args.rows.now c.args.self.now in
    let P : Option RowNumber → Type 0 = λ o. Updates c.args.rows.now c.set_beside.new.rows c.args.number.0
    (Some (record c.index-row.result.now { previous = o; next = None })) in
    let Q : Option RowNumber → Type 0 = λ o. NextIs c.set_beside.new.rows c.set_next.new.rows o (Some c.args.number) in
    let put = subst P c.remember.ensures.ends.1 (c.set_beside.ensures.beside c.index-row.result.now c.index-row.ensures) in
    let tied = subst Q c.remember.ensures.ends.1 c.set_next.ensures.next in
    let first = rw c.remember.ensures.ends.0 at c.or-self.ensures in
    let fits : length ts + 1 ≤ slab_len c.set_next.new.rows = omega (arith, c.requires.fits, c.set_next.ensures.size.len, c.set_beside.ensures.size.len) in
    λ row found.
    held_of_row _ _ ts c.args.number.0 c.index-row.result.now row (same_row c.index-row.result.now row (sym c.index-row.ensures ∙ found))
    (held_put c.args.rows.now c.set_beside.new.rows c.set_next.new.rows c.args.self.now _ ts c.args.number.0 c.index-row.result.now c.requires.held c.requires.differ
    c.requires.fresh fits put tied first refl c.stays_rising-is_rising.ensures.rising c.stays_rising-is_rising.ensures.late c.remember.ensures.least
    c.remember.ensures.unknown c.remember.ensures.sooner c.remember.ensures.later)

pub returns-clause-others : goal.returns-clause-others
returns-clause-others c = others_put c.args.rows.now c.set_beside.new.rows c.set_next.new.rows c.args.self.now (list_of c.args.rows.now c.args.self.now) c.args.number.0 _
    _ c.requires.held (c.set_beside.ensures.beside c.index-row.result.now c.index-row.ensures) (rw c.remember.ensures.ends.1 at c.set_next.ensures.next)
