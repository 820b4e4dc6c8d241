-- What a plan says of the bindings that its REGISTER leaves.
use Rattle.std.proofs.Common.{◌≡◌, ◌∙◌, ℕ, List, Ok, Err, map, ap, sym}
use Rattle.std.specs.Prelude.{Result, IfOk}
use Rattle.std.specs.declared.alloc.AllocError.{AllocError}
use Rattle.sip_message_fields.specs.declared.field.Field.{Field}
use Rattle.sip_location.specs.declared.binding.Binding.{Binding}
use Rattle.sip_location.specs.declared.registration.Registration.{Registration}
use Rattle.sip_location.specs.Binding.{live}
use Rattle.sip_location.specs.Locations.{Planned, IsPlan}
use Rattle.sip_location.specs.Registration.{registered}
use Rattle.sip_location.proofs.Updates.{live_edited}
use Rattle.sip_forwarding.specs.steps_model.Effect.{contact_field, contact_fields}

-- its bindings are those that live after the REGISTER
are_live : (rows after : List Binding) (r : Registration) (now : ℕ) (plan : Planned) → IsPlan rows r now plan → registered rows r now ≡ Ok after
    → plan.bindings ≡ live plan.aor now after
are_live rows after r now plan is comes = is.2 ∙ sym (live_edited rows after r now comes) ∙ sym (ap (λ aor. live aor now after) is.1)

-- so their fields are those that list the bindings after it
pub lists : (result : Result (List Field) AllocError) (now : ℕ) (plan : Planned) (bindings : List Binding) → bindings ≡ plan.bindings
    → IfOk result (λ fields. fields ≡ map (contact_field now) bindings)
    → IfOk result (λ fields. (rows after : List Binding) (r : Registration) → IsPlan rows r now plan → registered rows r now ≡ Ok after
    → fields ≡ contact_fields now plan.aor after)
lists (Ok fields) now plan bindings same are = λ rows after r is comes. are ∙ ap (map (contact_field now)) (same ∙ are_live rows after r now plan is comes)
lists (Err e) now plan bindings same are = tt
