use Rattle.std.proofs.Common.{◌≡◌, ◌∙◌, List, ap, subst}
use Rattle.std.specs.Prelude.{IsOk, IfSome}
use Rattle.sip_location.specs.declared.binding.Binding.{Binding}
use Rattle.sip_location.specs.AorBindings.{bindings_of}
use Rattle.sip_location.specs.Locations.{of_aor}
use Rattle.sip_location.specs.Registration.{edited, registered}
use Rattle.sip_location.specs.Refreshing.{asked_by, IsMade}
use Rattle.sip_location.proofs.Planning.{edited_of_own, ok_of_own}
use Rattle.sip_location.proofs.locations.Locations.plan_refresh.Goals as goal

pub returns-clause-plan : goal.returns-clause-plan
returns-clause-plan c =
    let r = asked_by c.args.request.now in
    let rows = c.self.inside.filing.rows in
    let made : IsMade c.rows_of-kept.result.now r c.args.now c.in-Some.rows = subst (λ o. IfSome o (IsMade c.rows_of-kept.result.now r c.args.now)) c.in-Some.is
    c.in_ok-rows.ensures in
    let taken : IsOk (registered (of_aor r.aor rows) r c.args.now) = subst (λ (bs : List Binding). IsOk (registered bs r c.args.now)) c.rows_of-kept.ensures made.taken in
    let bindings : bindings_of r.aor c.in-Some.rows ≡ edited rows r c.args.now =
    made.bindings ∙ ap (λ (bs : List Binding). edited bs r c.args.now) c.rows_of-kept.ensures ∙ edited_of_own rows r c.args.now in
    rw (← c.self.view_is) (ok_of_own rows r c.args.now taken, c.in_ok-aor.ensures, rw c.in_ok-aor.ensures bindings)
