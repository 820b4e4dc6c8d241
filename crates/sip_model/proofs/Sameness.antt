-- What is served and owed over rows that say the same.
use Rattle.std.proofs.Common.{◌≡◌, ℕ, ◌≤◌, Bool, false, List, [], cond, sym, ◌∙◌, ap, subst, arith, Option, Some, None, map}
use Rattle.std.specs.Prelude.{Contains, max}
use Rattle.std.specs.Option.{option_map_or}
use Rattle.std.specs.Result.{result_ok}
use Rattle.sip_uri.specs.declared.aor.Aor.{Aor}
use Rattle.sip_message_form.specs.declared.message.Message.{Message}
use Rattle.sip_header.specs.declared.core_fields.CoreFields.{CoreFields}
use Rattle.sip_header.specs.CoreFields.{core_of}
use Rattle.sip_location.specs.declared.binding.Binding.{Binding}
use Rattle.sip_location.specs.Registering.{to_aor}
use Rattle.sip_location.specs.Sameness.{SameBindings}
use Rattle.sip_location.proofs.Sameness.{same_later}
use Rattle.sip_targets.specs.Targets.{target_list}
use Rattle.sip_dialog.specs.declared.dialog.Dialog.{Dialog}
use Rattle.sip_dialog.specs.Sameness.{SameDialogs}
use Rattle.sip_event.specs.declared.packet.Packet.{Packet}
use Rattle.sip_event.specs.declared.event.StepOut.{StepOut}
use Rattle.sip_event.specs.declared.event.Event.TheVariants.{Datagram, Time, Fault}
use Rattle.model_steps.specs.state.declared.server.Server.{Server}
use Rattle.model_steps.specs.state.declared.proxy_state.ProxyState.{ProxyState}
use Rattle.model_steps.specs.context_model.Branches.{Change}
use Rattle.model_steps.proofs.of_state.Sameness.{after_answers_same, after_leaving_same}
use Rattle.model_steps.specs.state.Arrival.{Arrival}
use Rattle.model_steps.specs.verdict_model.Verdict.{Registered, Bound, Refused, is_register, question_of, registration_by}
use Rattle.model_steps.specs.verdict_model.Sameness.{SameRegistered}
use Rattle.model_steps.proofs.of_verdict_model.Sameness.{request_targets_same, registration_same, bound_back, refused_back}
use Rattle.model_steps.specs.Effect.{contact_field, contact_fields, dialogs_after}
use Rattle.model_steps.specs.Step.{Act, Given, Passing, arrival_of}
use Rattle.sip_model.specs.Run.{Link, under}
use Rattle.sip_model.specs.Bindings.{Arrived, rows_after, after_register}
use Rattle.sip_model.specs.Access.{IsSaidAt, decision_on, targets_given, targets_on, requests_to, answer_alone, IsServed, Serves, IsOwed, ToTarget, Answers, Forwards}
use Rattle.sip_model.specs.Access.{Acknowledges, Cancels, InKnownDialog}

-- ---- targets

targets_given_same : (server : Server) (left right : List Binding) (state : ProxyState) (now : ℕ) (m : Message) (method : List ℕ) (core : CoreFields)
    → SameBindings now left right
    → targets_given server left state now m method core ≡ targets_given server right state now m method core
targets_given_same server left right state now m method core h =
    request_targets_same server left right now m (question_of server state.nonces now m method core) (decision_on server state now m method core) h

targets_on_same : (server : Server) (left right : List Binding) (state : ProxyState) (now : ℕ) (m : Message) (method : List ℕ) (core : CoreFields)
    → SameBindings now left right
    → targets_on server left state now m method core ≡ targets_on server right state now m method core
targets_on_same server left right state now m method core h =
    ap (λ targets. cond (is_register method) [] (target_list targets)) (targets_given_same server left right state now m method core h)

-- ---- a REGISTER

-- the fields of a 200 are the same
pub contact_fields_same : (now : ℕ) (aor : Aor) (left right : List Binding) → SameBindings now left right → contact_fields now aor left ≡ contact_fields now aor right
contact_fields_same now aor left right h = ap (map (contact_field now)) (h aor now (omega arith))

-- the rows after it say the same
rows_after_same : (now : ℕ) (left right : List Binding) (one other : Registered) → SameBindings now left right → SameRegistered now one other
    → SameBindings now (rows_after left one) (rows_after right other)
rows_after_same now left right (Bound one) (Bound other) h k = k
rows_after_same now left right (Bound one) (Refused status extras) h k = absurd k
rows_after_same now left right (Refused status extras) (Bound other) h k = cc
rows_after_same now left right (Refused status extras) (Refused other_status other_extras) h k = h

-- and so they do after a REGISTER of which the core fields may be readable
pub register_same : (server : Server) (r : Arrived) (left right : List Binding) → SameBindings r.at left right
    → SameBindings r.at (after_register server r left) (after_register server r right)
register_same server r left right h = by_core (result_ok (core_of r.request)) where
  by_core : (core : Option CoreFields)
      → SameBindings r.at (option_map_or (λ c. rows_after left (registration_by (under server r.config) left r.at r.request c)) core left)
      (option_map_or (λ c. rows_after right (registration_by (under server r.config) right r.at r.request c)) core right)
  by_core None = h
  by_core (Some core) = rows_after_same r.at left right _ _ h (registration_same (under server r.config) left right r.at r.request core h)

-- ---- what is served and owed

pub served_same : (server : Server) (left right : List Binding) (state : ProxyState) (a : Arrival) (m : Message) (method : List ℕ) (core : CoreFields) (out : StepOut)
    → SameBindings a.now left right
    → IsServed server left state a m method core out → IsServed server right state a m method core out
served_same server left right state a m method core out h served =
    let given = targets_given_same server left right state a.now m method core h in
    let outcome = registration_same server left right a.now m core h in
    record {
      reaches = served.reaches ∙ ap (requests_to server a m) (targets_on_same server left right state a.now m method core h);
      lists = λ id after r allowed bound.
          let back = bound_back a.now _ _ after outcome bound in
          served.lists id back.0 r allowed back.1 ∙ ap (answer_alone server a m 200) (contact_fields_same a.now (to_aor core) back.0 after back.2);
      refuses = λ id status extras r allowed refused. served.refuses id status extras r allowed (refused_back a.now _ _ status extras outcome refused);
      finds_nobody = λ id r allowed nowhere. served.finds_nobody id r allowed (given ∙ nowhere);
      finds_no_binding = λ id r allowed nowhere. served.finds_no_binding id r allowed (given ∙ nowhere);
      challenges = served.challenges;
      denies = served.denies;
    }

-- what is served by some rows is so by those that say the same from the state's moment on
pub serves_same : (server : Server) (left right : List Binding) (state : ProxyState) (act : Act) (out : StepOut) → SameBindings state.moment left right
    → Serves server left state act out
    → Serves server right state act out
serves_same server left right state (Given (Datagram at word from bytes)) out h serves =
    λ m method core is_new.
    served_same server left right state (arrival_of state at word from) m method core out (same_later state.moment (max state.moment at) left right (omega arith) h)
    (serves m method core is_new)
serves_same server left right state (Given (Time at)) out h serves = tt
serves_same server left right state (Given (Fault at ticket)) out h serves = tt
serves_same server left right state (Passing at) out h serves = tt

-- a datagram doesn't come before the state's moment
said_later : (state : ProxyState) (act : Act) (a : Arrival) (bytes : List ℕ) (m : Message) (short : Bool) → IsSaidAt state act a bytes m short → state.moment ≤ a.now
said_later state act a bytes m short said =
    subst (λ (x : Arrival). state.moment ≤ x.now) (sym said.is_arrival) (let late : state.moment ≤ max state.moment said.at = omega arith in late)

-- what is owed by some rows is so by those that say the same
pub owed_same : (server : Server) (history : List Link) (state : ProxyState) (act : Act) (left right : List Binding) → SameBindings state.moment left right → (p : Packet)
    → IsOwed server history state act left p → IsOwed server history state act right p
owed_same server history state act left right h p (ToTarget a bytes m method core said is_new there) =
    let later : SameBindings a.now left right = same_later state.moment a.now left right (said_later state act a bytes m false said) h in
    ToTarget a bytes m method core said is_new
    (subst (λ targets. Contains (requests_to server a m targets) p) (targets_on_same server left right state a.now m method core later) there)
owed_same server history state act left right h p (Answers number m from status extras is_open denied is) = Answers number m from status extras is_open denied is
owed_same server history state act left right h p (Forwards r status response challenges there came along none is) =
    Forwards r status response challenges there came along none is
owed_same server history state act left right h p (Acknowledges a bytes r b status reason response said says is_for invite failure there) =
    Acknowledges a bytes r b status reason response said says is_for invite failure there
owed_same server history state act left right h p (Cancels r b there in_it target invite heard is) = Cancels r b there in_it target invite heard is
owed_same server history state act left right h p (InKnownDialog a m address within to bytes ticket) = InKnownDialog a m address within to bytes ticket

-- ---- dialogs

-- what a change of an open request makes of them
pub dialogs_after_same : (server : Server) (now : ℕ) (change : Change) (left right : List Dialog) → SameDialogs now left right
    → SameDialogs now (dialogs_after server now change left) (dialogs_after server now change right)
dialogs_after_same server now change left right h = after_leaving_same now change.request _ _ (after_answers_same server now change.request change.upward left right h)
