use Rattle.std.proofs.Common.{refl, sym, subst, List, ℕ}
use Rattle.sip_location.specs.KeptBinding.{binding_of}
use Rattle.sip_location.specs.Refreshing.{asked_by, IsAskedAgain}
use Rattle.sip_location.proofs.Refreshes.{made_again}
use Rattle.sip_location.proofs.refreshing.refreshed.Goals as goal

pub returns : goal.returns
returns c =
    let r = asked_by c.args.request.now in
    let again = subst (λ (text : List ℕ). IsAskedAgain r c.args.request.now.contact.now text (binding_of r.aor c.in-Some.row.now) c.args.now c.in-Some-asked_again.seconds)
    (sym c.uri_text-text.ensures.says) c.in-Some-asked_again.ensures.asked in
    made_again r c.args.request.now.contact.now c.uri_text-text.result.now c.args.rows.now c.in_ok-one.field-0 c.in-Some.row.now c.in_ok-row.row c.args.now
    c.in-Some-asked_again.seconds refl c.in-Some.ensures again c.in_ok-row.ensures c.in_ok-one.ensures
