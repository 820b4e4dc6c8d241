use Rattle.std.proofs.Common.{◌∙◌, List, sym, subst, Option}
use Rattle.sip_location.specs.Locations.{Planned}
use Rattle.sip_location.specs.declared.binding.Binding.{Binding}
use Rattle.sip_engine_request.proofs.Asking.{Binds, follows, has_room}
use Rattle.sip_engine_request.proofs.deciding.take_plan.Goals as goal

pub register-requires : goal.register-requires
register-requires g c = has_room c.args.proxy.now.room c.args.outcome c.in-Some.plan (sym c.into_plan.ensures ∙ c.in-Some.is) c.requires

pub returns-in-Some-clause-bound : goal.returns-in-Some-clause-bound
returns-in-Some-clause-bound g c =
    let old : List Binding = c.args.proxy.now.state.bindings in
    let new : List Binding = c.register.new.self.state.bindings in
    subst (λ (plan : Option Planned). Binds plan old new) (sym c.in-Some.is ∙ c.into_plan.ensures) (follows old new c.in-Some.plan c.register.ensures.registered)
