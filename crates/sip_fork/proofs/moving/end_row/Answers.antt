use Rattle.std.proofs.Common.{◌≡◌, List, Some, slice_get, refl, sym, subst}
use Rattle.sip_request.specs.declared.request.Request.{Request}
use Rattle.sip_request.specs.Ended.{become}
use Rattle.sip_request.specs.Named.{named_by}
use Rattle.sip_request.specs.Order.{named_in_order}
use Rattle.sip_fork.specs.Contexts.{AreTied, IsKept}
use Rattle.sip_fork.specs.Ending.{ended}
use Rattle.sip_fork.proofs.Ends.{kept_ended, still_number}
use Rattle.sip_fork.proofs.Tying.{changed, contexts, held_at, kept_at, seen_changed, timed_at}
use Rattle.sip_fork.specs.Firing.{KeepsOrder}
use Rattle.sip_fork.proofs.Queueing.{any_named, changed_queue}
use Rattle.sip_fork.proofs.moving.end_row.Goals as goal

pub stop-requires-clause-held : goal.stop-requires-clause-held
stop-requires-clause-held g c =
    let at : slice_get c.args.table.now.rows c.args.place ≡ Some c.row.inside.request = rw c.row.view_is c.get-row.ensures.row in
    held_at c.args.timers.now.pending c.args.timers.now.reached c.args.table.now.rows c.args.place c.row.inside.request c.requires.tied at

pub stop-requires-clause-timed : goal.stop-requires-clause-timed
stop-requires-clause-timed g c =
    let at : slice_get c.args.table.now.rows c.args.place ≡ Some c.row.inside.request = rw c.row.view_is c.get-row.ensures.row in
    timed_at c.args.timers.now.pending c.args.timers.now.reached c.args.table.now.rows c.args.place c.row.inside.request c.requires.tied at

pub returns-clause-rows : goal.returns-clause-rows
returns-clause-rows g c = λ r at.
    seen_changed c.args.table.now.rows c.end.new.self.rows c.args.place (become (ended c.args.transaction r.open_request) r) (ended c.args.transaction r.open_request)
    (c.end.ensures.rows r at) refl

pub returns-clause-tied : goal.returns-clause-tied
returns-clause-tied g c =
    let row : Request = c.row.inside.request in
    let at : slice_get c.args.table.now.rows c.args.place ≡ Some row = rw c.row.view_is c.get-row.ensures.row in
    let was : IsKept c.args.timers.now.reached row = kept_at c.args.timers.now.pending c.args.timers.now.reached c.args.table.now.rows c.args.place row c.requires.tied at
    in
    subst (λ (xs : List Request). AreTied c.stop.new.timers.pending c.stop.new.timers.reached xs) (sym (c.end.ensures.rows row at))
    (changed c.args.timers.now.pending c.stop.new.timers.pending c.args.timers.now.reached c.stop.new.timers.reached c.args.table.now.rows c.args.place row
    (become (ended c.args.transaction row.open_request) row) c.requires.tied at
    (still_number c.args.transaction row.open_request)
    c.stop.ensures.still
    (kept_ended c.args.timers.now.reached c.args.transaction row was (c.requires.fits row at) (c.requires.within row at)
    (c.requires.branches row at was.branched).branched)
    c.stop.ensures.moves)

pub returns-clause-queue : goal.returns-clause-queue
returns-clause-queue g c =
    let row : Request = c.row.inside.request in
    let next : Request = become (ended c.args.transaction row.open_request) row in
    let at : slice_get c.args.table.now.rows c.args.place ≡ Some row = rw c.row.view_is c.get-row.ensures.row in
    let was : IsKept c.args.timers.now.reached row = kept_at c.args.timers.now.pending c.args.timers.now.reached c.args.table.now.rows c.args.place row c.requires.tied at
    in
    let kept = kept_ended c.args.timers.now.reached c.args.transaction row was (c.requires.fits row at) (c.requires.within row at)
    (c.requires.branches row at was.branched).branched in
    subst (λ (xs : List Request). KeepsOrder c.args.timers.now.pending c.stop.new.timers.pending (contexts xs)) (sym (c.end.ensures.rows row at))
    (changed_queue c.timers_are_apart.ensures c.args.timers.now.pending c.stop.new.timers.pending c.args.timers.now.reached c.stop.new.timers.reached
    c.args.table.now.rows c.requires.tied c.stand_in_order.ensures c.args.place row next at
    (changed c.args.timers.now.pending c.stop.new.timers.pending c.args.timers.now.reached c.stop.new.timers.reached c.args.table.now.rows c.args.place row next
    c.requires.tied at (still_number c.args.transaction row.open_request) c.stop.ensures.still kept c.stop.ensures.moves)
    kept.keys
    (any_named c.args.timers.now.pending c.stop.new.timers.pending (named_by row) (named_in_order next) c.stop.ensures.sets))
