use Rattle.std.proofs.Common.{◌≤◌, List, ℕ, sym, ap, subst, ◌∙◌, arith}
use Rattle.sip_header.specs.declared.expires.Expires.{Expires}
use Rattle.sip_location.specs.Interval.{own_or, granted}
use Rattle.sip_location.specs.KeptBinding.{binding_of}
use Rattle.sip_location.specs.Refreshing.{asked_by, IsAskedAgain}
use Rattle.sip_location.proofs.Refreshes.{asked}
use Rattle.sip_location.proofs.refreshing.asked_again.Goals as goal

pub returns-clause-asked : goal.returns-clause-asked
returns-clause-asked c =
    let r = asked_by c.args.request.now in
    let b = binding_of r.aor c.args.row.now in
    let contact = c.args.request.now.contact.now in
    let seconds = c.granted-seconds.result in
    let value = c.granted-seconds.ensures.value ∙ ap granted (c.own_or.ensures ∙ ap (λ (e : Expires). own_or e r.expires) c.parameters_expires.ensures) in
    let long : 60 ≤ seconds = omega arith in
    subst (λ (text : List ℕ). IsAskedAgain r contact text b c.args.now seconds) c.uri_text.ensures.says
    (asked r contact c.uri_text.result.now b c.args.now seconds c.in_ok-parameters.parameters (sym c.is_live_row.ensures ∙ c.if-not-is_live_row.false)
    (sym c.is_of_call.ensures ∙ c.if-is_of_call.false) c.in_ok-parameters.ensures c.uri_text.ensures.uri value long)
