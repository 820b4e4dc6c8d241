use Rattle.std.proofs.Common.{◌≡◌, List, Some, slice_get, sym, ◌∙◌, ap, subst}
use Rattle.sip_dialog_updates.specs.state.declared.open_request.OpenRequest.{OpenRequest}
use Rattle.sip_dialog_updates.specs.state.declared.branch.Branch.{Branch}
use Rattle.sip_request.specs.declared.request.Request.{Request}
use Rattle.sip_fork.specs.Contexts.{AreTied, IsFitting, IsKept}
use Rattle.sip_fork.proofs.Tying.{changed, contexts, held_at, kept_at, kept_new, ready, seen_changed, timed_at}
use Rattle.sip_request.specs.transactions_model.Matching.{AreBranched, AreMatched}
use Rattle.sip_request.specs.transactions_model.Kept.{AreKept}
use Rattle.sip_request.specs.Order.{keyed}
use Rattle.sip_fork.specs.Firing.{KeepsOrder}
use Rattle.sip_fork.proofs.Queueing.{changed_queue, keyed_all}
use Rattle.sip_fork.proofs.moving.change_row.Goals as goal

pub follow-requires-clause-held : goal.follow-requires-clause-held
follow-requires-clause-held g c =
    let at : slice_get c.args.table.now.rows c.args.place ≡ Some c.stood.inside.request = rw c.stood.view_is c.get-stood.ensures.row in
    held_at c.args.timers.now.pending c.args.timers.now.reached c.args.table.now.rows c.args.place c.stood.inside.request c.requires.tied at

pub follow-requires-clause-timed : goal.follow-requires-clause-timed
follow-requires-clause-timed g c =
    let at : slice_get c.args.table.now.rows c.args.place ≡ Some c.stood.inside.request = rw c.stood.view_is c.get-stood.ensures.row in
    timed_at c.args.timers.now.pending c.args.timers.now.reached c.args.table.now.rows c.args.place c.stood.inside.request c.requires.tied at

pub follow-requires-clause-ready : goal.follow-requires-clause-ready
follow-requires-clause-ready g c =
    let fitting : IsFitting c.args.timers.now.reached c.args.timers.now.room c.change.inside.row.open_request = rw c.change.view_is c.requires.fitting in
    ready c.args.timers.now.pending c.args.timers.now.reached c.args.timers.now.room c.args.table.now.rows
    (record { request = c.change.inside.row.open_request; keys = c.change.inside.row.branches }) c.requires.tied c.change.invariant.keys fitting

pub replace-requires-clause-number : goal.replace-requires-clause-number
replace-requires-clause-number g c = λ r at. ap (λ (x : OpenRequest). x.number) (c.follow.ensures.request ∙ c.change.view_is) ∙ (c.requires.same r at).number

pub replace-requires-clause-key : goal.replace-requires-clause-key
replace-requires-clause-key g c = λ r at. ap (λ (x : OpenRequest). x.key) (c.follow.ensures.request ∙ c.change.view_is) ∙ (c.requires.same r at).key

pub returns-clause-rows : goal.returns-clause-rows
returns-clause-rows g c =
    seen_changed c.args.table.now.rows c.replace.new.self.rows c.args.place c.follow.new.row c.args.change c.replace.ensures.rows
    (c.follow.ensures.request ∙ c.change.view_is)

pub returns-clause-tied : goal.returns-clause-tied
returns-clause-tied g c =
    let row : Request = c.stood.inside.request in
    let at : slice_get c.args.table.now.rows c.args.place ≡ Some row = rw c.stood.view_is c.get-stood.ensures.row in
    let fitting : IsFitting c.args.timers.now.reached c.args.timers.now.room c.change.inside.row.open_request = rw c.change.view_is c.requires.fitting in
    let was : IsKept c.args.timers.now.reached row = kept_at c.args.timers.now.pending c.args.timers.now.reached c.args.table.now.rows c.args.place row c.requires.tied at
    in
    let branched : AreBranched c.change.inside.row.open_request.branches = rw c.change.view_is (c.requires.branches row at was.branched).branched in
    let same : c.follow.new.row.open_request.number ≡ row.open_request.number = ap (λ (x : OpenRequest). x.number) (c.follow.ensures.request ∙ c.change.view_is)
    ∙ (c.requires.same row at).number in
    subst (λ (xs : List Request). AreTied c.follow.new.timers.pending c.follow.new.timers.reached xs) (sym c.replace.ensures.rows)
    (changed c.args.timers.now.pending c.follow.new.timers.pending c.args.timers.now.reached c.follow.new.timers.reached c.args.table.now.rows c.args.place row
    c.follow.new.row c.requires.tied at same
    c.follow.ensures.still
    (kept_new c.args.timers.now.reached c.args.timers.now.room c.follow.new.row c.change.inside.row.open_request c.follow.ensures.request c.follow.ensures.keys
    c.change.invariant.numbers branched fitting) c.follow.ensures.moves)

pub returns-clause-queue : goal.returns-clause-queue
returns-clause-queue g c =
    let row : Request = c.stood.inside.request in
    let next : Request = c.follow.new.row in
    let at : slice_get c.args.table.now.rows c.args.place ≡ Some row = rw c.stood.view_is c.get-stood.ensures.row in
    let fitting : IsFitting c.args.timers.now.reached c.args.timers.now.room c.change.inside.row.open_request = rw c.change.view_is c.requires.fitting in
    let was : IsKept c.args.timers.now.reached row = kept_at c.args.timers.now.pending c.args.timers.now.reached c.args.table.now.rows c.args.place row c.requires.tied at
    in
    let becomes : AreKept row.open_request.branches c.change.inside.row.open_request.branches = rw c.change.view_is (c.requires.branches row at was.branched) in
    let same : next.open_request.number ≡ row.open_request.number = ap (λ (x : OpenRequest). x.number) (c.follow.ensures.request ∙ c.change.view_is)
    ∙ (c.requires.same row at).number in
    let with_keys : AreMatched (keyed row.open_request.branches row.branches) c.change.inside.row.open_request.branches =
    subst (λ (bs : List Branch). AreMatched bs c.change.inside.row.open_request.branches) (sym (keyed_all row.open_request.branches row.branches was.keys))
    becomes.matched in
    subst (λ (xs : List Request). KeepsOrder c.args.timers.now.pending c.follow.new.timers.pending (contexts xs)) (sym c.replace.ensures.rows)
    (changed_queue c.timers_are_apart.ensures c.args.timers.now.pending c.follow.new.timers.pending c.args.timers.now.reached c.follow.new.timers.reached
    c.args.table.now.rows c.requires.tied c.stand_in_order.ensures c.args.place row next at
    (changed c.args.timers.now.pending c.follow.new.timers.pending c.args.timers.now.reached c.follow.new.timers.reached c.args.table.now.rows c.args.place row next
    c.requires.tied at same c.follow.ensures.still
    (kept_new c.args.timers.now.reached c.args.timers.now.room next c.change.inside.row.open_request c.follow.ensures.request c.follow.ensures.keys
    c.change.invariant.numbers becomes.branched fitting) c.follow.ensures.moves)
    c.follow.ensures.keys
    (c.follow.ensures.sets with_keys))
