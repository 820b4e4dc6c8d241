-- What a REGISTER that was let through comes to, with the plan for its bindings.
use Rattle.std.specs.Prelude.{◌≡◌, ◌≤◌, ℕ, List, Option, Some, None, ⊤}
use Rattle.sip_location.specs.declared.binding.Binding.{Binding}
use Rattle.sip_location.specs.declared.registration.Registration.{Registration}
use Rattle.sip_location.specs.Locations.{Planned, IsPlan}
use Rattle.sip_location.specs.Registration.{registered}
use Rattle.sip_verdict.specs.declared.registering.Registering.{Registering}
use Rattle.sip_verdict.specs.declared.registering.Registering.TheVariants as Judged
use Rattle.sip_uri.specs.declared.aor.Aor.{Aor}
use Rattle.model_verdict.specs.Verdict.{Registered, Refused, registered_by}

-- A plan is for an address of record, by a registration that isn't refused, and a REGISTER comes to what that makes of the rows.
pub record IsPlanned (rows : List Binding) (now : ℕ) (aor : Aor) (outcome : Registered) (plan : Planned) : Type 0 where
  pub is_for : plan.aor ≡ aor
  pub registration : Registration
  pub is_plan : IsPlan rows registration now plan
  pub comes_to : outcome ≡ registered_by (registered rows registration now)

-- What a REGISTER for an address of record comes to over some rows, as it is judged: the same refusal, or the plan for it.
abbrev pub ComesTo : List Binding → ℕ → Aor → Registered → Registering → Type 0
ComesTo rows now aor outcome (Judged.Refused status extras) = outcome ≡ Refused status extras
ComesTo rows now aor outcome (Judged.Planned plan) = IsPlanned rows now aor outcome plan

-- the plan of a registration that isn't refused
abbrev pub plan_in : Registering → Option Planned
plan_in (Judged.Planned plan) = Some plan
plan_in (Judged.Refused status extras) = None

-- There is room for a plan, so that applying it takes no memory.
abbrev pub HasRoom : ℕ → Registering → Type 0
HasRoom room (Judged.Refused status extras) = ⊤
HasRoom room (Judged.Planned plan) = 1 ≤ room
