use Rattle.std.proofs.Common.{◌≡◌, List, get_or, sym, ◌∙◌, subst}
use Rattle.sip_dialog_updates.specs.state.declared.branch.Branch.{Branch}
use Rattle.sip_fork.specs.Due.{is_at}
use Rattle.sip_fork.proofs.Dues.{ends_then, found_of, none_again}
use Rattle.sip_fork.proofs.first_due.branch_what.Goals as goal

pub returns-clause-some : goal.returns-clause-some
returns-clause-some c =
    let x : Branch = c.index-as_slice-place.result in
    ends_then c.args.request.now c.args.owner c.args.due c.in_ok-place.place x (sym c.place_of.ensures ∙ c.in_ok-place.was)
    (sym (subst (λ (bs : List Branch). x ≡ get_or bs c.in_ok-place.place x) c.as_slice.ensures c.index-as_slice-place.is))
    (sym (subst (λ o. c.is_at.result ≡ is_at o c.args.due) c.branch_due.ensures c.is_at.ensures) ∙ c.if-is_at.false)

pub returns-then-is_at-clause-part : goal.returns-then-is_at-clause-part
returns-then-is_at-clause-part c =
    let x : Branch = c.index-as_slice-place.result in
    found_of c.args.request.now c.args.owner c.args.due c.in_ok-place.place x (sym c.place_of.ensures ∙ c.in_ok-place.was)
    (sym (subst (λ (bs : List Branch). x ≡ get_or bs c.in_ok-place.place x) c.as_slice.ensures c.index-as_slice-place.is))

pub returns-clause-part : goal.returns-clause-part
returns-clause-part c =
    let x : Branch = c.index-as_slice-place.result in
    found_of c.args.request.now c.args.owner c.args.due c.in_ok-place.place x (sym c.place_of.ensures ∙ c.in_ok-place.was)
    (sym (subst (λ (bs : List Branch). x ≡ get_or bs c.in_ok-place.place x) c.as_slice.ensures c.index-as_slice-place.is))

pub returns-clause-again : goal.returns-clause-again
returns-clause-again c =
    let x : Branch = c.index-as_slice-place.result in
    none_again c.args.request.now c.args.due c.in_ok-place.place x
    (sym (subst (λ (bs : List Branch). x ≡ get_or bs c.in_ok-place.place x) c.as_slice.ensures c.index-as_slice-place.is))
    (sym (subst (λ o. c.is_at.result ≡ is_at o c.args.due) c.branch_due.ensures c.is_at.ensures) ∙ c.if-is_at.false)
