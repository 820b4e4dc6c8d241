-- What is drafted of a verdict by policy does what the verdict does.
use Rattle.std.proofs.Common.{◌≡◌, ℕ, Bool, List, Option, Result, Some, None, Ok, Err, IfSome, IfOk, sym, subst}
use Rattle.std.specs.declared.alloc.AllocError.{AllocError}
use Rattle.sip_forwarding.specs.declared.arrival.Arrival.{Arrival}
use Rattle.sip_forwarding.specs.Arrivals.{arrival_of}
use Rattle.sip_auth.specs.Proof.{used}
use Rattle.sip_message_fields.specs.declared.field.Field.{Field}
use Rattle.sip_message_form.specs.declared.message.Message.{Message}
use Rattle.sip_transaction_table.specs.declared.key.TransactionKey.{TransactionKey}
use Rattle.sip_forwarding.specs.steps_model.Effect as Effects
use Rattle.sip_digest.specs.Nonces.{issued}
use Rattle.sip_dialog_updates.specs.state.declared.open_request.OpenRequest.{OpenRequest}
use Rattle.sip_dialog_updates.specs.state.declared.proxy_state.ProxyState.{ProxyState}
use Rattle.sip_dialog_updates.specs.state.declared.server.Server.{Server}
use Rattle.sip_targets.specs.declared.targets.Targets.{Targets}
use Rattle.sip_verdict.specs.verdict_model.declared.question.Question.{Question}
use Rattle.sip_verdict.specs.verdict_model.Verdict as Definition
use Rattle.sip_location.specs.declared.binding.Binding.{Binding}
use Rattle.sip_location.specs.Locations.{Planned}
use Rattle.sip_verdict.specs.declared.verdict.Judged.{Judged}
use Rattle.sip_verdict.specs.declared.verdict.PolicyOutcome.{PolicyOutcome}
use Rattle.sip_verdict.specs.declared.verdict.PolicyOutcome.TheVariants.{Challenge, Deny, Send, Register}
use Rattle.sip_verdict.specs.declared.verdict.Verdict.TheVariants as Arrived
use Rattle.sip_verdict.specs.declared.registering.Registering.{Registering}
use Rattle.sip_verdict.specs.declared.registering.Registering.TheVariants as Judge
use Rattle.sip_verdict.specs.Registering.{ComesTo, IsPlanned, plan_in}
use Rattle.sip_verdict.specs.Verdict.{Is, IsOutcome, plan_of}
use Rattle.model_transactions.specs.Fits.{IsFinalAnswer}
use Rattle.sip_uas.specs.declared.answer_draft.AnswerDraft.{AnswerDraft}
use Rattle.sip_uas.specs.Asking.{after_outcome, after_asking, RefusesFinally, AnswersFinally}
use Rattle.sip_uas.specs.Drafts.{Does, Drafts, IsOpenable}

module _ (server : Server) (a : Arrival) (m : Message) (key : TransactionKey) (q : Question) (minute : Option ℕ) (full : Bool) where
  -- ---- what a draft is of

  -- an effect, which leaves the nonces with what policy was asked
  abbrev pub Asks : (ProxyState → Effects.Effect) → AnswerDraft → Type 0
  Asks effect draft = minute ≡ Definition.minute_on server q → Drafts full a.now draft (λ nonces. used nonces a.now q.proof) None effect

  -- what comes of what policy decided
  abbrev pub Serves : PolicyOutcome → AnswerDraft → Type 0
  Serves outcome draft = (state : ProxyState) (verdict : Definition.Verdict) → Definition.is_full state ≡ full → minute ≡ Definition.minute_on server q
      → IsOutcome state.bindings a.now q verdict outcome
      → Does a.now draft (after_outcome (arrival_of a) outcome (used state.nonces a.now q.proof)) (plan_of outcome) state
      (Effects.effect_of server (arrival_of a) m verdict state)

  -- and it can be opened
  abbrev pub Opens : PolicyOutcome → AnswerDraft → Type 0
  Opens outcome draft = (rows : List Binding) (verdict : Definition.Verdict) → IsOutcome rows a.now q verdict outcome → AnswersFinally verdict
      → IfSome draft.opened (IsOpenable a key)

  -- what a REGISTER comes to
  abbrev pub Registers : ℕ → Registering → AnswerDraft → Type 0
  Registers rule registering draft = minute ≡ Definition.minute_on server q
      → (state : ProxyState) (registered : Definition.Registered) → Definition.is_full state ≡ full → ComesTo state.bindings a.now q.target registered registering
      → Does a.now draft (used state.nonces a.now q.proof) (plan_in registering) state (Effects.registering server (arrival_of a) m q rule registered state)

  -- and it can be opened
  abbrev pub OpensRegistering : Registering → AnswerDraft → Type 0
  OpensRegistering registering draft = (rows : List Binding) (registered : Definition.Registered) → ComesTo rows a.now q.target registered registering
      → RefusesFinally registered → IfSome draft.opened (IsOpenable a key)

  -- ---- registration

  pub registers_planned : (result : Result AnswerDraft AllocError) (rule : ℕ) (plan : Planned) (outcome : Registering) → outcome ≡ Judge.Planned plan
      → IfOk result (λ draft. minute ≡ Definition.minute_on server q → (state : ProxyState) (registered : Definition.Registered) → Definition.is_full state ≡ full
      → IsPlanned state.bindings a.now q.target registered plan
      → Does a.now draft (used state.nonces a.now q.proof) (Some plan) state (Effects.registering server (arrival_of a) m q rule registered state))
      → IfOk result (Registers rule outcome)
  registers_planned result rule plan outcome is h = subst (λ (o : Registering). IfOk result (Registers rule o)) (sym is) h

  pub opens_planned : (result : Result AnswerDraft AllocError) (outcome : Registering) → IfOk result (λ draft. IfSome draft.opened (IsOpenable a key))
      → IfOk result (OpensRegistering outcome)
  opens_planned (Ok draft) outcome h = λ rows registered comes final. h
  opens_planned (Err e) outcome h = tt

  refused_plainly : (result : Result AnswerDraft AllocError) (rule status : ℕ) (extras : List Field)
      → IfOk result (Asks (Effects.answered_by_rule server (arrival_of a) m q rule status extras)) → IfOk result (Registers rule (Judge.Refused status extras))
  refused_plainly (Ok draft) rule status extras h = λ is state registered room comes.
      subst (λ (r : Definition.Registered). Does a.now draft (used state.nonces a.now q.proof) None state (Effects.registering server (arrival_of a) m q rule r state))
      (sym comes) (h is state room)
  refused_plainly (Err e) rule status extras h = tt

  pub registers_refused : (result : Result AnswerDraft AllocError) (rule status : ℕ) (extras : List Field) (outcome : Registering) → outcome ≡ Judge.Refused status extras
      → IfOk result (Asks (Effects.answered_by_rule server (arrival_of a) m q rule status extras)) → IfOk result (Registers rule outcome)
  registers_refused result rule status extras outcome is h = subst (λ (o : Registering). IfOk result (Registers rule o)) (sym is)
      (refused_plainly result rule status extras h)

  opened_plainly : (result : Result AnswerDraft AllocError) (status : ℕ) (extras : List Field)
      → IfOk result (λ draft. IsFinalAnswer status → IfSome draft.opened (IsOpenable a key))
      → IfOk result (OpensRegistering (Judge.Refused status extras))
  opened_plainly (Ok draft) status extras h = λ rows registered comes final. h (subst RefusesFinally comes final)
  opened_plainly (Err e) status extras h = tt

  pub opens_refused : (result : Result AnswerDraft AllocError) (status : ℕ) (extras : List Field) (outcome : Registering) → outcome ≡ Judge.Refused status extras
      → IfOk result (λ draft. IsFinalAnswer status → IfSome draft.opened (IsOpenable a key)) → IfOk result (OpensRegistering outcome)
  opens_refused result status extras outcome is h = subst (λ (o : Registering). IfOk result (OpensRegistering o)) (sym is) (opened_plainly result status extras h)

  -- ---- by what was decided

  pub serves_challenge : (result : Result AnswerDraft AllocError)
      → IfOk result (λ draft. minute ≡ Definition.minute_on server q → Drafts full a.now draft (λ nonces. issued (used nonces a.now q.proof) a.word a.now) None
      (Effects.challenged server (arrival_of a) m q))
      → IfOk result (Serves Challenge)
  serves_challenge (Ok draft) h = λ state verdict room is decided.
      subst (λ (v : Definition.Verdict). Does a.now draft (issued (used state.nonces a.now q.proof) a.word a.now) None state
      (Effects.effect_of server (arrival_of a) m v state)) (sym decided) (h is state room)
  serves_challenge (Err e) h = tt

  pub serves_denial : (result : Result AnswerDraft AllocError) (rule : ℕ) → IfOk result (Asks (Effects.denied server (arrival_of a) m q rule))
      → IfOk result (Serves (Deny rule))
  serves_denial (Ok draft) rule h = λ state verdict room is decided.
      subst (λ (v : Definition.Verdict). Does a.now draft (used state.nonces a.now q.proof) None state (Effects.effect_of server (arrival_of a) m v state)) (sym decided)
      (h is state room)
  serves_denial (Err e) rule h = tt

  pub serves_nobody : (result : Result AnswerDraft AllocError) (rule : ℕ) (targets : Targets)
      → IfOk result (Asks (Effects.sending server (arrival_of a) m q rule targets))
      → IfOk result (Serves (Send rule targets))
  serves_nobody (Ok draft) rule targets h = λ state verdict room is decided.
      subst (λ (v : Definition.Verdict). Does a.now draft (used state.nonces a.now q.proof) None state (Effects.effect_of server (arrival_of a) m v state)) (sym decided)
      (h is state room)
  serves_nobody (Err e) rule targets h = tt

  pub serves_registering : (result : Result AnswerDraft AllocError) (rule : ℕ) (registering : Registering) → IfOk result (Registers rule registering)
      → IfOk result (Serves (Register rule registering))
  serves_registering (Ok draft) rule registering h = λ state verdict room is decided.
      subst (λ (v : Definition.Verdict). Does a.now draft (used state.nonces a.now q.proof) (plan_in registering) state
      (Effects.effect_of server (arrival_of a) m v state)) (sym decided.verdict_is)
      (h is state decided.registered room decided.comes_to)
  serves_registering (Err e) rule registering h = tt

  pub opens_at_once : (result : Result AnswerDraft AllocError) (outcome : PolicyOutcome) → IfOk result (λ draft. IfSome draft.opened (IsOpenable a key))
      → IfOk result (Opens outcome)
  opens_at_once (Ok draft) outcome h = λ rows verdict decided final. h
  opens_at_once (Err e) outcome h = tt

  pub opens_registering : (result : Result AnswerDraft AllocError) (rule : ℕ) (registering : Registering) → IfOk result (OpensRegistering registering)
      → IfOk result (Opens (Register rule registering))
  opens_registering (Ok draft) rule registering h = λ rows verdict decided final. h rows decided.registered decided.comes_to
      (subst AnswersFinally decided.verdict_is final)
  opens_registering (Err e) rule registering h = tt

-- ---- the whole

pub serves : (result : Result AnswerDraft AllocError) (server : Server) (a : Arrival) (m : Message) (key : TransactionKey) (judged : Judged) (full : Bool)
    (outcome : PolicyOutcome)
    → judged.outcome ≡ outcome
    → IfOk result (Serves server a m key judged.question judged.minute full outcome)
    → IfOk result (λ draft. (state : ProxyState) (rows : List Binding) (named : Option OpenRequest) (verdict : Definition.Verdict) → state.bindings ≡ rows
    → Definition.is_full state ≡ full → Is server rows a.now named verdict (Arrived.Judged judged)
    → Does a.now draft (after_asking (arrival_of a) judged state.nonces) (plan_of judged.outcome) state (Effects.effect_of server (arrival_of a) m verdict state))
serves (Ok draft) server a m key judged full outcome is h = λ state rows named verdict same room decided.
    subst (λ (o : PolicyOutcome). Serves server a m key judged.question judged.minute full o draft) (sym is) h state verdict room decided.0
    (subst (λ (rs : List Binding). IsOutcome rs a.now judged.question verdict judged.outcome) (sym same) decided.1)
serves (Err e) server a m key judged full outcome is h = tt

pub opens : (result : Result AnswerDraft AllocError) (server : Server) (a : Arrival) (m : Message) (key : TransactionKey) (judged : Judged) (full : Bool)
    (outcome : PolicyOutcome)
    → judged.outcome ≡ outcome
    → IfOk result (Opens server a m key judged.question judged.minute full outcome)
    → IfOk result (λ draft. (rows : List Binding) (named : Option OpenRequest) (verdict : Definition.Verdict) → Is server rows a.now named verdict (Arrived.Judged judged)
    → AnswersFinally verdict
    → IfSome draft.opened (IsOpenable a key))
opens (Ok draft) server a m key judged full outcome is h = λ rows named verdict decided final.
    subst (λ (o : PolicyOutcome). Opens server a m key judged.question judged.minute full o draft) (sym is) h rows verdict decided.1 final
opens (Err e) server a m key judged full outcome is h = tt
