use Rattle.std.proofs.Common.{List, refl, subst}
use Rattle.std.specs.Prelude.{IfOk, IfSome}
use Rattle.sip_location.specs.declared.binding.Binding.{Binding}
use Rattle.sip_location.specs.Locations.{IsPlan}
use Rattle.sip_location.specs.Registering.{registration_of}
use Rattle.sip_location.specs.Registration.{registered}
use Rattle.model_verdict.specs.Verdict.{registered_by}
use Rattle.sip_verdict.specs.Registering.{ComesTo}
use Rattle.sip_verdict.proofs.Outcomes.{reads}
use Rattle.sip_verdict.proofs.registration.planned_for.Goals as goal

pub returns-in-Some-clause-outcome : goal.returns-in-Some-clause-outcome
returns-in-Some-clause-outcome c =
    let r = registration_of c.args.request.now.core.now c.args.request.now.message.now.fields in
    let is : IsPlan c.args.locations.now.rows r c.args.request.now.moment c.in-Some.plan =
    subst (λ o. IfSome o (IsPlan c.args.locations.now.rows r c.args.request.now.moment)) c.in-Some.is c.in_ok-plan.ensures.plan in
    record { is_for = is.1; registration = r; is_plan = is; comes_to = refl }

pub returns-clause-outcome : goal.returns-clause-outcome
returns-clause-outcome c =
    let now = c.args.request.now.moment in
    let r = c.in_ok-registration.registration in
    let outcome = subst (λ (rows : List Binding). IfOk c.planned.result (ComesTo rows now r.aor (registered_by (registered rows r now)))) c.in_ok-plan.ensures.unchanged
    c.planned.ensures.outcome in
    reads c.planned.result c.args.locations.now.rows now c.args.request.now.core.now c.fields.result.now c.args.request.now.message.now.fields r
    c.in_ok-registration.ensures c.fields.ensures outcome
