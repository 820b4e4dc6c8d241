use Rattle.std.proofs.Common.{◌≡◌, ◌<◌, List, None, position, sym, ◌∙◌, ap, subst}
use Rattle.std.specs.List.{All}
use Rattle.sip_transaction_table.specs.Key.{same_key}
use Rattle.sip_transaction_table.specs.declared.key.TransactionKey.{TransactionKey}
use Rattle.sip_dialog_updates.specs.state.declared.open_request.OpenRequest.{OpenRequest}
use Rattle.sip_request.specs.declared.request.Request.{Request}
use Rattle.sip_request.specs.transactions_model.Matching.{AreBranched}
use Rattle.sip_fork.specs.Contexts.{AreTied, IsFitting}
use Rattle.sip_fork.proofs.Tying.{contexts, kept_new, opened, ready}
use Rattle.sip_fork.specs.Firing.{KeepsOrder}
use Rattle.sip_fork.proofs.Queueing.{opened_queue}
use Rattle.sip_fork.proofs.moving.open_row.Goals as goal

pub begin-requires-clause-ready : goal.begin-requires-clause-ready
begin-requires-clause-ready g c =
    let fitting : IsFitting c.args.timers.now.reached c.args.timers.now.room c.opening.inside.place.open_request = rw c.opening.view_is c.requires.fitting in
    ready c.args.timers.now.pending c.args.timers.now.reached c.args.timers.now.room c.args.table.now.rows
    (record { request = c.opening.inside.place.open_request; keys = c.opening.inside.place.branches })
    c.requires.tied c.opening.invariant.keys fitting

pub push-requires-clause-alone : goal.push-requires-clause-alone
push-requires-clause-alone g c =
    let same : c.begin.new.place.open_request.key ≡ c.args.opening.key = ap (λ (x : OpenRequest). x.key) (c.begin.ensures.request ∙ c.opening.view_is) in
    subst (λ (k : TransactionKey). position (λ (r : Request). same_key r.open_request.key k) c.args.table.now.rows ≡ None) (sym same) c.requires.alone

pub returns-clause-tied : goal.returns-clause-tied
returns-clause-tied g c =
    let fitting : IsFitting c.args.timers.now.reached c.args.timers.now.room c.opening.inside.place.open_request = rw c.opening.view_is c.requires.fitting in
    let branched : AreBranched c.opening.inside.place.open_request.branches = rw c.opening.view_is c.requires.branched in
    let last : All (λ (r : Request). r.open_request.number < c.begin.new.place.open_request.number) c.args.table.now.rows =
    subst (λ (x : OpenRequest). All (λ (r : Request). r.open_request.number < x.number) c.args.table.now.rows) (sym (c.begin.ensures.request ∙ c.opening.view_is))
    c.requires.last in
    subst (λ (xs : List Request). AreTied c.begin.new.timers.pending c.begin.new.timers.reached xs) (sym c.push.ensures.rows)
    (opened c.args.timers.now.pending c.begin.new.timers.pending c.args.timers.now.reached c.begin.new.timers.reached c.args.table.now.rows c.begin.new.place
    c.requires.tied last c.begin.ensures.still
    (kept_new c.args.timers.now.reached c.args.timers.now.room c.begin.new.place c.opening.inside.place.open_request c.begin.ensures.request c.begin.ensures.keys
    c.opening.invariant.numbers branched fitting) c.begin.ensures.moves)

pub returns-clause-queue : goal.returns-clause-queue
returns-clause-queue g c =
    let fitting : IsFitting c.args.timers.now.reached c.args.timers.now.room c.opening.inside.place.open_request = rw c.opening.view_is c.requires.fitting in
    let branched : AreBranched c.opening.inside.place.open_request.branches = rw c.opening.view_is c.requires.branched in
    let last : All (λ (r : Request). r.open_request.number < c.begin.new.place.open_request.number) c.args.table.now.rows =
    subst (λ (x : OpenRequest). All (λ (r : Request). r.open_request.number < x.number) c.args.table.now.rows) (sym (c.begin.ensures.request ∙ c.opening.view_is))
    c.requires.last in
    subst (λ (xs : List Request). KeepsOrder c.args.timers.now.pending c.begin.new.timers.pending (contexts xs)) (sym c.push.ensures.rows)
    (opened_queue c.timers_are_apart.ensures c.args.timers.now.pending c.begin.new.timers.pending c.args.timers.now.reached c.begin.new.timers.reached
    c.args.table.now.rows c.requires.tied c.stand_in_order.ensures c.begin.new.place
    (opened c.args.timers.now.pending c.begin.new.timers.pending c.args.timers.now.reached c.begin.new.timers.reached c.args.table.now.rows c.begin.new.place
    c.requires.tied last c.begin.ensures.still
    (kept_new c.args.timers.now.reached c.args.timers.now.room c.begin.new.place c.opening.inside.place.open_request c.begin.ensures.request c.begin.ensures.keys
    c.opening.invariant.numbers branched fitting) c.begin.ensures.moves)
    c.begin.ensures.keys c.begin.ensures.sets)
