-- What policy decided about a request that is answered here, as the step of the definitions that does it.
use Rattle.std.proofs.Common.{◌≡◌, ◌∙◌, ◌≤◌, ℕ, IfSome, true, List, [], ◌∷◌, Option, Result, Some, Ok, refl, sym, ap, subst, true≢false}
use Rattle.sip_event.specs.declared.event.StepOut.{StepOut}
use Rattle.sip_proxy.specs.Proxy.{Becomes, with_bindings, with_nonces}
use Rattle.sip_proxy.specs.verdict.Verdict.{HasRoomFor, IsOutcome, plan_of}
use Rattle.sip_proxy.specs.verdict.declared.verdict.Judged.{Judged}
use Rattle.sip_proxy.specs.verdict.declared.verdict.PolicyOutcome.{PolicyOutcome}
use Rattle.sip_proxy.specs.verdict.declared.verdict.PolicyOutcome.TheVariants.{Challenge, Deny, Send, Register}
use Rattle.sip_proxy.specs.verdict.context_model.Opening.{closing}
use Rattle.sip_message_fields.specs.declared.field.Field.{Field}
use Rattle.sip_message_form.specs.declared.message.Message.{Message}
use Rattle.sip_proxy.specs.verdict.declared.registering.Registering.TheVariants as Judge
use Rattle.sip_location.specs.Locations.{IsPlan, Planned}
use Rattle.sip_location.specs.Registration.{registered}
use Rattle.sip_location.specs.Sameness.{SameBindings, SameOutcome}
use Rattle.sip_location.specs.declared.binding.Binding.{Binding}
use Rattle.sip_location.specs.declared.error.LocationError.{LocationError}
use Rattle.sip_location.specs.declared.registration.Registration.{Registration}
use Rattle.sip_proxy.specs.steps_model.Effect.{Effect, challenge_status, challenges_to, contact_fields, counted, effect_of}
use Rattle.sip_proxy.specs.steps_model.Step.{Does}
use Rattle.sip_digest.specs.declared.nonces.Nonce.{Nonce}
use Rattle.sip_uas.specs.forwarding.Arrivals.{arrival_of}
use Rattle.sip_uas.specs.forwarding.declared.arrival.Arrival.{Arrival}
use Rattle.sip_edit_response.specs.Extras.{denial_warning}
use Rattle.sip_dialog_updates.specs.state.declared.open_request.OpenRequest.{OpenRequest}
use Rattle.sip_dialog_updates.specs.state.declared.proxy_state.ProxyState.{ProxyState}
use Rattle.sip_dialog_updates.specs.state.declared.server.Server.{Server}
use Rattle.sip_targets.specs.declared.targets.Targets.{Targets}
use Rattle.sip_targets.specs.declared.targets.Targets.TheVariants as To
use Rattle.sip_proxy.specs.verdict.verdict_model.Verdict as Definition
use Rattle.sip_proxy.specs.verdict.verdict_model.declared.question.Question.{Question}
use Rattle.sip_uas.specs.Asking.{after_asking, are_nobody, is_answered_here}
use Rattle.sip_uas.specs.Drafts as Drafts
use Rattle.sip_uas.specs.Drafts.{AreBound, with_opened}
use Rattle.sip_uas.specs.declared.answer_draft.AnswerDraft.{AnswerDraft}
use Rattle.sip_engine_request.proofs.Answering.{Replies, step_done}
use Rattle.sip_uas.proofs.Replying.{text_by}

-- ---- bindings

-- what a plan makes of the bindings, if there is one
abbrev pub Binds : Option Planned → List Binding → List Binding → Type 0
Binds plan old new = (now : ℕ) (after : List Binding) → AreBound now plan old after → SameBindings now new after

-- with a plan the bindings are those after its registration
pub follows : (old new : List Binding) (plan : Planned) → ((r : Registration) (at : ℕ) → IsPlan old r at plan → SameOutcome at (Ok new) (registered old r at))
    → Binds (Some plan) old new
follows old new plan applied = λ now after is.
    subst (λ (outcome : Result (List Binding) LocationError). SameOutcome now (Ok new) outcome) is.registered_are (applied is.registration now is.is_plan)

-- there is room for the plan of what was decided, if it has one
has_room_for : (room : ℕ) (outcome : PolicyOutcome) → HasRoomFor room outcome → IfSome (plan_of outcome) (λ plan. 1 ≤ room)
has_room_for room Challenge has = tt
has_room_for room (Deny id) has = tt
has_room_for room (Send id targets) has = tt
has_room_for room (Register id (Judge.Planned plan)) has = has
has_room_for room (Register id (Judge.Refused status extras)) has = tt

pub has_room : (room : ℕ) (outcome : PolicyOutcome) (plan : Planned) → plan_of outcome ≡ Some plan → HasRoomFor room outcome → 1 ≤ room
has_room room outcome plan is has = subst (λ (planned : Option Planned). IfSome planned (λ p. 1 ≤ room)) is (has_room_for room outcome has)

-- ---- answers

module _ (server : Server) (a : Arrival) (m : Message) (state : ProxyState) where
  -- what a verdict does is an answer
  abbrev pub RepliesBy : Definition.Verdict → Type 0
  RepliesBy verdict = Replies state.requests state.dialogs (effect_of server (arrival_of a) m verdict state)

  -- the request with a final answer
  abbrev pub closed : ℕ → List Field → OpenRequest
  closed status extras = closing (arrival_of a) m status (text_by server a m status extras)

  challenge_replies : (q : Question) → RepliesBy (Definition.Challenge q)
  challenge_replies q =
      record {
        request = closed (challenge_status q.operation) (challenges_to server (arrival_of a) q);
        once = refl;
        none_again = refl;
        requests_are = refl;
        dialogs_are = refl;
      }

  denial_replies : (q : Question) (id : ℕ) → RepliesBy (Definition.Deny q id)
  denial_replies q id = record {
    request = closed 403 (denial_warning server.config.own id ∷ []);
    once = refl;
    none_again = refl;
    requests_are = refl;
    dialogs_are = refl;
  }

  nobody_replies : (q : Question) (id : ℕ) (targets : Targets) → are_nobody targets ≡ true → RepliesBy (Definition.Send q id targets)
  nobody_replies q id (To.Bindings targets) here = absurd (true≢false (sym here))
  nobody_replies q id (To.Hop uri address) here = absurd (true≢false (sym here))
  nobody_replies q id To.NotFound here = record { request = closed 404 []; once = refl; none_again = refl; requests_are = refl; dialogs_are = refl }
  nobody_replies q id To.Unavailable here = record { request = closed 480 []; once = refl; none_again = refl; requests_are = refl; dialogs_are = refl }

  registered_replies : (q : Question) (id : ℕ) (outcome : Definition.Registered) → RepliesBy (Definition.Register q id outcome)
  registered_replies q id (Definition.Bound rows) =
      record { request = closed 200 (contact_fields a.now q.target rows); once = refl; none_again = refl; requests_are = refl; dialogs_are = refl }
  registered_replies q id (Definition.Refused status extras) = record {
    request = closed status extras;
    once = refl;
    none_again = refl;
    requests_are = refl;
    dialogs_are = refl;
  }

  pub judged_replies : (rows : List Binding) (q : Question) (verdict : Definition.Verdict) (outcome : PolicyOutcome) → is_answered_here outcome ≡ true
      → IsOutcome rows a.now q verdict outcome → RepliesBy verdict
  judged_replies rows q verdict Challenge here is = subst RepliesBy (sym is) (challenge_replies q)
  judged_replies rows q verdict (Deny id) here is = subst RepliesBy (sym is) (denial_replies q id)
  judged_replies rows q verdict (Send id targets) here is = subst RepliesBy (sym is) (nobody_replies q id targets here)
  judged_replies rows q verdict (Register id registering) here is = subst RepliesBy (sym is.verdict_is) (registered_replies q id is.registered)

-- ---- the step

pub judged_done : (server : Server) (a : Arrival) (m : Message) (old mid new : ProxyState) (judged : Judged) (verdict : Definition.Verdict) (draft : AnswerDraft)
    (out : StepOut)
    → Drafts.Does a.now draft (after_asking (arrival_of a) judged old.nonces) (plan_of judged.outcome) (counted (arrival_of a) old)
    (effect_of server (arrival_of a) m verdict (counted (arrival_of a) old))
    → RepliesBy server a m (counted (arrival_of a) old) verdict
    → out ≡ record { at = a.now; packets = draft.packets; records = draft.records }
    → Becomes a.now (with_opened draft.opened old.requests) [] (counted (arrival_of a) old) mid
    → new ≡ with_nonces (after_asking (arrival_of a) judged mid.nonces) (with_bindings new.bindings mid) → Binds (plan_of judged.outcome) mid.bindings new.bindings
    → Does server old a.now (effect_of server (arrival_of a) m verdict (counted (arrival_of a) old)) out new
judged_done server a m old mid new judged verdict draft out does is put became left binds =
    let effect : Effect = effect_of server (arrival_of a) m verdict (counted (arrival_of a) old) in
    step_done server a old mid new draft (after_asking (arrival_of a) judged old.nonces) (plan_of judged.outcome) effect out does is put became
    (left ∙ ap (λ (nonces : List Nonce). with_nonces (after_asking (arrival_of a) judged nonces) (with_bindings new.bindings mid)) became.nonces_are)
    (binds a.now effect.state.bindings (subst (λ (rows : List Binding). AreBound a.now (plan_of judged.outcome) rows effect.state.bindings) (sym became.bindings_are)
    does.bindings_are))
