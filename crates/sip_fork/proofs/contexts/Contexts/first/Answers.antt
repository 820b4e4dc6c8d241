use Rattle.std.proofs.Common.{◌≡◌, Option, Some, slice_get, IfSome, sym, ◌∙◌, subst}
use Rattle.sip_fork.specs.Due.{GoesAgainBefore, IsDue, IsOfOwner}
use Rattle.sip_fork.specs.declared.first_due.Due.{Due}
use Rattle.sip_fork.proofs.Earliest.{nothing_due, first_found, first_due, is_first, of_first, some_of, number_there}
use Rattle.sip_fork.proofs.contexts.Contexts.first.Goals as goal

pub returns-in_err-due-clause-first : goal.returns-in_err-due-clause-first
returns-in_err-due-clause-first g c = rw c.from_residual.ensures (rw (← c.self.view_is)
    (nothing_due c.timers_stand_for_moments.ensures c.self.inside.timers.pending c.self.inside.timers.reached c.self.inside.table.rows c.self.invariant.tied
    (sym c.in_err-due.ensures.first)))

pub unwrap-place-requires : goal.unwrap-place-requires
unwrap-place-requires g c = rw c.find_number.ensures.place
    (first_found c.timers_stand_for_moments.ensures c.self.inside.timers.pending c.self.inside.timers.reached c.self.inside.table.rows c.self.invariant.tied
    c.in_ok-due.due c.in_ok-due.name c.first.ensures.order (sym c.in_ok-due.ensures.first))

pub unwrap-what-requires : goal.unwrap-what-requires
unwrap-what-requires g c =
    let at : slice_get c.self.inside.table.rows c.unwrap-place.result ≡ Some c.row.inside.request = rw c.row.view_is c.get-row.ensures.row in
    let found = sym c.find_number.ensures.place ∙ c.unwrap-place.ensures in
    some_of c.what_at.result c.what_at.ensures.none
    (first_due c.timers_stand_for_moments.ensures c.self.inside.timers.pending c.self.inside.timers.reached c.self.inside.table.rows c.self.invariant.tied c.in_ok-due.due
    c.in_ok-due.name c.first.ensures.order (sym c.in_ok-due.ensures.first)
    c.unwrap-place.result c.row.inside.request c.len-open.ensures.rise at (number_there c.in_ok-due.name.request c.self.inside.table.rows c.unwrap-place.result
    c.row.inside.request found at))

pub returns-clause-first : goal.returns-clause-first
returns-clause-first g c =
    let at : slice_get c.self.inside.table.rows c.unwrap-place.result ≡ Some c.row.inside.request = rw c.row.view_is c.get-row.ensures.row in
    let is : IsDue c.row.inside.request.open_request c.in_ok-due.due c.unwrap-what.result =
    subst (λ (o : Option Due). IfSome o (IsDue c.row.inside.request.open_request c.in_ok-due.due)) c.unwrap-what.ensures c.what_at.ensures.some in
    rw (← c.self.view_is)
    (is_first c.timers_stand_for_moments.ensures c.self.inside.timers.pending c.self.inside.timers.reached c.self.inside.table.rows c.self.invariant.tied c.in_ok-due.due
    c.in_ok-due.name c.first.ensures.order (sym c.in_ok-due.ensures.first)
    c.unwrap-place.result c.row.inside.request c.unwrap-what.result at is)

pub returns-clause-in_order : goal.returns-clause-in_order
returns-clause-in_order g c =
    let at : slice_get c.self.inside.table.rows c.unwrap-place.result ≡ Some c.row.inside.request = rw c.row.view_is c.get-row.ensures.row in
    let found = sym c.find_number.ensures.place ∙ c.unwrap-place.ensures in
    let is : IsOfOwner c.row.inside.request.open_request c.in_ok-due.name.owner c.unwrap-what.result =
    subst (λ (o : Option Due). IfSome o (IsOfOwner c.row.inside.request.open_request c.in_ok-due.name.owner)) c.unwrap-what.ensures c.what_at.ensures.part in
    let again : GoesAgainBefore c.row.inside.request.open_request c.in_ok-due.due c.unwrap-what.result =
    subst (λ (o : Option Due). IfSome o (GoesAgainBefore c.row.inside.request.open_request c.in_ok-due.due)) c.unwrap-what.ensures c.what_at.ensures.again in
    rw (← c.self.view_is)
    (of_first c.self.inside.timers.pending c.self.inside.table.rows c.in_ok-due.due c.in_ok-due.name (sym c.in_ok-due.ensures.first) c.unwrap-place.result
    c.row.inside.request c.unwrap-what.result at
    (number_there c.in_ok-due.name.request c.self.inside.table.rows c.unwrap-place.result c.row.inside.request found at) is again)
