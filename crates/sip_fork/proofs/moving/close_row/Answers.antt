use Rattle.std.proofs.Common.{◌≡◌, List, Some, slice_get, sym, subst}
use Rattle.sip_request.specs.declared.request.Request.{Request}
use Rattle.sip_fork.specs.Contexts.{AreTied}
use Rattle.sip_fork.proofs.Tying.{closed, contexts, held_at, timed_at}
use Rattle.sip_fork.specs.Firing.{KeepsOrder}
use Rattle.sip_fork.proofs.Queueing.{closed_queue}
use Rattle.sip_fork.proofs.moving.close_row.Goals as goal

pub close-requires-clause-held : goal.close-requires-clause-held
close-requires-clause-held g c =
    let at : slice_get c.args.table.now.rows c.args.place ≡ Some c.standing.inside.request = rw (c.standing.view_is, c.get-standing.ensures) c.remove-row.ensures.old in
    held_at c.args.timers.now.pending c.args.timers.now.reached c.args.table.now.rows c.args.place c.standing.inside.request c.requires.tied at

pub close-requires-clause-timed : goal.close-requires-clause-timed
close-requires-clause-timed g c =
    let at : slice_get c.args.table.now.rows c.args.place ≡ Some c.standing.inside.request = rw (c.standing.view_is, c.get-standing.ensures) c.remove-row.ensures.old in
    timed_at c.args.timers.now.pending c.args.timers.now.reached c.args.table.now.rows c.args.place c.standing.inside.request c.requires.tied at

pub returns-clause-tied : goal.returns-clause-tied
returns-clause-tied g c =
    let at : slice_get c.args.table.now.rows c.args.place ≡ Some c.standing.inside.request = rw (c.standing.view_is, c.get-standing.ensures) c.remove-row.ensures.old in
    subst (λ (xs : List Request). AreTied c.close.new.timers.pending c.close.new.timers.reached xs) (sym c.remove-row.ensures.rows)
    (closed c.args.timers.now.pending c.close.new.timers.pending c.args.timers.now.reached c.close.new.timers.reached c.args.table.now.rows c.args.place
    c.standing.inside.request c.requires.tied at c.close.ensures.still c.close.ensures.moves)

pub returns-clause-queue : goal.returns-clause-queue
returns-clause-queue g c =
    let at : slice_get c.args.table.now.rows c.args.place ≡ Some c.standing.inside.request = rw (c.standing.view_is, c.get-standing.ensures) c.remove-row.ensures.old in
    subst (λ (xs : List Request). KeepsOrder c.args.timers.now.pending c.close.new.timers.pending (contexts xs)) (sym c.remove-row.ensures.rows)
    (closed_queue c.timers_are_apart.ensures c.args.timers.now.pending c.close.new.timers.pending c.args.timers.now.reached c.close.new.timers.reached
    c.args.table.now.rows c.requires.tied c.stand_in_order.ensures c.args.place c.standing.inside.request at
    (closed c.args.timers.now.pending c.close.new.timers.pending c.args.timers.now.reached c.close.new.timers.reached c.args.table.now.rows c.args.place
    c.standing.inside.request c.requires.tied at c.close.ensures.still c.close.ensures.moves)
    c.close.ensures.sets)
