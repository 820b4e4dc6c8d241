use Rattle.std.proofs.Common.{◌≡◌, ◌+◌, ◌==◌, Some, None, position, slice_get, sym, ◌∙◌, ap, subst, List}
use Rattle.std.specs.Option.{unwrap_or}
use Rattle.model_steps.specs.Effect.{replaced}
use Rattle.sip_dialog_updates.specs.state.declared.open_request.OpenRequest.{OpenRequest}
use Rattle.sip_request.specs.declared.request.Request.{Request}
use Rattle.sip_request.specs.transactions_model.Near.{IsWithin}
use Rattle.sip_fork.specs.Contexts.{Contexts}
use Rattle.sip_fork.specs.Ending.{ended, left_invite}
use Rattle.sip_fork.proofs.Ends.{left_of, none_left, still_number}
use Rattle.sip_fork.proofs.OnTime.{whole}
use Rattle.sip_fork.proofs.Tying.{contexts, place_of, replaced_in, replaced_out, seen_at}
use Rattle.sip_fork.specs.Firing.{KeepsOrder}
use Rattle.sip_fork.proofs.contexts.Contexts.end.Goals as goal

pub end_row-requires-clause-fits : goal.end_row-requires-clause-fits
end_row-requires-clause-fits g c = λ r at.
    (c.requires.kept r.open_request (subst (λ (v : Contexts). slice_get v.requests c.args.place ≡ Some r.open_request) c.self.view_is
    (seen_at c.self.inside.table.rows c.args.place r at))).fits

pub end_row-requires-clause-within : goal.end_row-requires-clause-within
end_row-requires-clause-within g c = λ r at.
    let kept = c.requires.kept r.open_request (subst (λ (v : Contexts). slice_get v.requests c.args.place ≡ Some r.open_request) c.self.view_is
    (seen_at c.self.inside.table.rows c.args.place r at)) in
    c.time_passes.ensures.request c.self.inside.moment (c.self.inside.timers.reached + 1) (ended c.args.transaction r.open_request) c.self.invariant.on_time.soon
    (subst (λ (v : Contexts). IsWithin v.moment (ended c.args.transaction r.open_request)) (sym c.self.view_is) kept.within)

pub end_row-requires-clause-branches : goal.end_row-requires-clause-branches
end_row-requires-clause-branches g c = λ r at.
    (c.requires.kept r.open_request (subst (λ (v : Contexts). slice_get v.requests c.args.place ≡ Some r.open_request) c.self.view_is
    (seen_at c.self.inside.table.rows c.args.place r at))).branches

pub returns-then-leaves_with-clause-requests : goal.returns-then-leaves_with-clause-requests
returns-then-leaves_with-clause-requests g c = λ r at.
    let row : Request = c.row.inside.request in
    let there : slice_get c.self.inside.table.rows c.args.place ≡ Some row = rw c.row.view_is c.get-row.ensures.row in
    let shown : slice_get c.args.self.now.requests c.args.place ≡ Some row.open_request =
    subst (λ (v : Contexts). slice_get v.requests c.args.place ≡ Some row.open_request) c.self.view_is (seen_at c.self.inside.table.rows c.args.place row there) in
    let is_row : row.open_request ≡ r = ap (λ o. unwrap_or o r) (sym shown ∙ at) in
    let next : OpenRequest = ended c.args.transaction row.open_request in
    let found : position (λ (x : OpenRequest). x.number == next.number) (contexts c.self.inside.table.rows) ≡ Some c.args.place =
    place_of next c.self.inside.table.rows c.args.place row (still_number c.args.transaction row.open_request) (rw c.row.view_is c.get-row.ensures.number) in
    subst (λ (x : OpenRequest). contexts c.close_row.new.table.rows ≡ replaced (ended c.args.transaction x) c.args.self.now.requests) is_row
    (subst (λ (v : Contexts). contexts c.close_row.new.table.rows ≡ replaced next v.requests) c.self.view_is
    (ap (λ (xs : List Request). contexts xs) c.close_row.ensures.rows ∙ replaced_out next c.self.inside.table.rows c.args.place
    (sym c.leaves_with.ensures ∙ c.if-leaves_with.true) found))

pub returns-else-leaves_with-clause-requests : goal.returns-else-leaves_with-clause-requests
returns-else-leaves_with-clause-requests g c = λ r at.
    let row : Request = c.row.inside.request in
    let there : slice_get c.self.inside.table.rows c.args.place ≡ Some row = rw c.row.view_is c.get-row.ensures.row in
    let shown : slice_get c.args.self.now.requests c.args.place ≡ Some row.open_request =
    subst (λ (v : Contexts). slice_get v.requests c.args.place ≡ Some row.open_request) c.self.view_is (seen_at c.self.inside.table.rows c.args.place row there) in
    let is_row : row.open_request ≡ r = ap (λ o. unwrap_or o r) (sym shown ∙ at) in
    let next : OpenRequest = ended c.args.transaction row.open_request in
    let found : position (λ (x : OpenRequest). x.number == next.number) (contexts c.self.inside.table.rows) ≡ Some c.args.place =
    place_of next c.self.inside.table.rows c.args.place row (still_number c.args.transaction row.open_request) (rw c.row.view_is c.get-row.ensures.number) in
    subst (λ (x : OpenRequest). contexts c.end_row.new.table.rows ≡ replaced (ended c.args.transaction x) c.args.self.now.requests) is_row
    (subst (λ (v : Contexts). contexts c.end_row.new.table.rows ≡ replaced next v.requests) c.self.view_is
    (c.end_row.ensures.rows row there ∙ replaced_in next (contexts c.self.inside.table.rows) c.args.place (sym c.leaves_with.ensures ∙ c.if-leaves_with.false) found))

pub invariant_of-self : goal.invariant_of-self
invariant_of-self g c =
    let row : Request = c.row.inside.request in
    let there : slice_get c.self.inside.table.rows c.args.place ≡ Some row = rw c.row.view_is c.get-row.ensures.row in
    let shown : slice_get c.args.self.now.requests c.args.place ≡ Some row.open_request =
    subst (λ (v : Contexts). slice_get v.requests c.args.place ≡ Some row.open_request) c.self.view_is (seen_at c.self.inside.table.rows c.args.place row there) in
    let next : OpenRequest = ended c.args.transaction row.open_request in
    let found : position (λ (x : OpenRequest). x.number == next.number) (contexts c.self.inside.table.rows) ≡ Some c.args.place =
    place_of next c.self.inside.table.rows c.args.place row (still_number c.args.transaction row.open_request) (rw c.row.view_is c.get-row.ensures.number) in
    let near : IsWithin c.self.inside.moment next = subst (λ (v : Contexts). IsWithin v.moment next) (sym c.self.view_is) (c.requires.kept row.open_request shown).within
    in
    whole c.self.inside.moment c.self.inside.timers.reached next (contexts c.self.inside.table.rows) c.close_row.new.timers.pending c.close_row.new.timers.reached
    c.close_row.new.table.rows near c.self.invariant.on_time
    (ap (λ (xs : List Request). contexts xs) c.close_row.ensures.rows ∙ replaced_out next c.self.inside.table.rows c.args.place
    (sym c.leaves_with.ensures ∙ c.if-leaves_with.true) found)
    c.close_row.ensures.still
    c.close_row.ensures.tied

pub invariant_of-self-else-leaves_with : goal.invariant_of-self-else-leaves_with
invariant_of-self-else-leaves_with g c =
    let row : Request = c.row.inside.request in
    let there : slice_get c.self.inside.table.rows c.args.place ≡ Some row = rw c.row.view_is c.get-row.ensures.row in
    let shown : slice_get c.args.self.now.requests c.args.place ≡ Some row.open_request =
    subst (λ (v : Contexts). slice_get v.requests c.args.place ≡ Some row.open_request) c.self.view_is (seen_at c.self.inside.table.rows c.args.place row there) in
    let next : OpenRequest = ended c.args.transaction row.open_request in
    let found : position (λ (x : OpenRequest). x.number == next.number) (contexts c.self.inside.table.rows) ≡ Some c.args.place =
    place_of next c.self.inside.table.rows c.args.place row (still_number c.args.transaction row.open_request) (rw c.row.view_is c.get-row.ensures.number) in
    let near : IsWithin c.self.inside.moment next = subst (λ (v : Contexts). IsWithin v.moment next) (sym c.self.view_is) (c.requires.kept row.open_request shown).within
    in
    whole c.self.inside.moment c.self.inside.timers.reached next (contexts c.self.inside.table.rows) c.end_row.new.timers.pending c.end_row.new.timers.reached
    c.end_row.new.table.rows near c.self.invariant.on_time
    (c.end_row.ensures.rows row there ∙ replaced_in next (contexts c.self.inside.table.rows) c.args.place (sym c.leaves_with.ensures ∙ c.if-leaves_with.false) found)
    c.end_row.ensures.still
    c.end_row.ensures.tied

pub returns-then-leaves_with-clause-left : goal.returns-then-leaves_with-clause-left
returns-then-leaves_with-clause-left g c = λ r at.
    let row : Request = c.row.inside.request in
    let there : slice_get c.self.inside.table.rows c.args.place ≡ Some row = rw c.row.view_is c.get-row.ensures.row in
    let shown : slice_get c.args.self.now.requests c.args.place ≡ Some row.open_request =
    subst (λ (v : Contexts). slice_get v.requests c.args.place ≡ Some row.open_request) c.self.view_is (seen_at c.self.inside.table.rows c.args.place row there) in
    let is_row : row.open_request ≡ r = ap (λ o. unwrap_or o r) (sym shown ∙ at) in
    subst (λ (x : OpenRequest). c.invite_number-left.result ≡ left_invite (ended c.args.transaction x)) is_row
    (left_of c.args.transaction row.open_request c.invite_number-left.result c.invite_number-left.ensures (sym c.leaves_with.ensures ∙ c.if-leaves_with.true))

pub returns-else-leaves_with-clause-left : goal.returns-else-leaves_with-clause-left
returns-else-leaves_with-clause-left g c = λ r at.
    let row : Request = c.row.inside.request in
    let there : slice_get c.self.inside.table.rows c.args.place ≡ Some row = rw c.row.view_is c.get-row.ensures.row in
    let shown : slice_get c.args.self.now.requests c.args.place ≡ Some row.open_request =
    subst (λ (v : Contexts). slice_get v.requests c.args.place ≡ Some row.open_request) c.self.view_is (seen_at c.self.inside.table.rows c.args.place row there) in
    let is_row : row.open_request ≡ r = ap (λ o. unwrap_or o r) (sym shown ∙ at) in
    subst (λ (x : OpenRequest). None ≡ left_invite (ended c.args.transaction x)) is_row
    (none_left c.args.transaction row.open_request (sym c.leaves_with.ensures ∙ c.if-leaves_with.false))

pub returns-then-leaves_with-clause-queue : goal.returns-then-leaves_with-clause-queue
returns-then-leaves_with-clause-queue g c =
    subst (λ (v : Contexts). KeepsOrder v.pending c.close_row.new.timers.pending (contexts c.close_row.new.table.rows)) c.self.view_is c.close_row.ensures.queue

pub returns-else-leaves_with-clause-queue : goal.returns-else-leaves_with-clause-queue
returns-else-leaves_with-clause-queue g c =
    subst (λ (v : Contexts). KeepsOrder v.pending c.end_row.new.timers.pending (contexts c.end_row.new.table.rows)) c.self.view_is c.end_row.ensures.queue
