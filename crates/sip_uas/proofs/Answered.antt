-- What follows what policy decided, as it is drafted.
use Rattle.std.proofs.Common.{◌≡◌, ◌∙◌, ℕ, Bool, true, false, cond, List, [], ◌∷◌, Option, Result, Some, None, Ok, Err, IfSome, IfOk, IsOk, refl, sym, ap, subst}
use Rattle.std.proofs.Common.{true≢false}
use Rattle.std.specs.declared.alloc.AllocError.{AllocError}
use Rattle.sip_forwarding.specs.declared.arrival.Arrival.{Arrival}
use Rattle.sip_forwarding.specs.Arrivals.{arrival_of}
use Rattle.sip_audit.specs.declared.record.AuditOutcome.{AuditOutcome}
use Rattle.sip_audit.specs.declared.record.Record.{Record}
use Rattle.sip_auth.specs.Proof.{used}
use Rattle.sip_message_fields.specs.declared.field.Field.{Field}
use Rattle.sip_message_form.specs.declared.message.Message.{Message}
use Rattle.sip_transaction_table.specs.declared.key.TransactionKey.{TransactionKey}
use Rattle.sip_forwarding.specs.steps_model.Effect.{Effect}
use Rattle.sip_forwarding.specs.steps_model.Effect as Effects
use Rattle.sip_digest.specs.declared.nonces.Nonce.{Nonce}
use Rattle.sip_digest.specs.Nonces.{issued}
use Rattle.sip_policy.specs.declared.operation.Operation.{Operation}
use Rattle.sip_edit_response.specs.Extras.{denial_warning}
use Rattle.sip_dialog_updates.specs.state.declared.proxy_state.ProxyState.{ProxyState}
use Rattle.sip_dialog_updates.specs.state.declared.server.Server.{Server}
use Rattle.sip_targets.specs.declared.targets.Targets.{Targets}
use Rattle.sip_targets.specs.declared.targets.Targets.TheVariants.{Bindings, Hop, NotFound, Unavailable}
use Rattle.sip_verdict.specs.verdict_model.declared.question.Question.{Question}
use Rattle.sip_verdict.specs.verdict_model.Verdict.{Registered, Bound, minute_on, is_full, registered_by}
use Rattle.sip_location.specs.declared.binding.Binding.{Binding}
use Rattle.sip_location.specs.declared.error.LocationError.{LocationError}
use Rattle.sip_location.specs.declared.registration.Registration.{Registration}
use Rattle.sip_location.specs.Locations.{Planned, IsPlan}
use Rattle.sip_location.specs.Registration.{registered}
use Rattle.sip_verdict.specs.Registering.{IsPlanned}
use Rattle.model_transactions.specs.Fits.{IsFinalAnswer}
use Rattle.sip_uas.specs.declared.answer_draft.AnswerDraft.{AnswerDraft}
use Rattle.sip_uas.specs.Asking.{are_nobody, nobody_status}
use Rattle.sip_uas.specs.Drafts.{AreAfter, Does, Drafts, IsOpenable}

-- what a draft does in a state with other nonces
pub with_nonces : (now : ℕ) (draft : AnswerDraft) (nonces : List Nonce) (state : ProxyState) (effect : Effect)
    → Does now draft nonces None (record state { nonces = nonces }) effect → Does now draft nonces None state effect
with_nonces now draft nonces state effect h =
    record {
      originals_are = h.originals_are;
      again_are = h.again_are;
      records_are = h.records_are;
      moment_is = h.moment_is;
      next_is = h.next_is;
      requests_are = h.requests_are;
      dialogs_are = h.dialogs_are;
      nonces_are = h.nonces_are;
      bindings_are = h.bindings_are;
    }

-- and in one with other bindings, which a plan makes
pub with_bindings : (now : ℕ) (draft : AnswerDraft) (nonces : List Nonce) (plan : Planned) (state : ProxyState) (after : List Binding) (effect : Effect)
    → AreAfter now plan state.bindings after → Does now draft nonces None (record state { bindings = after }) effect → Does now draft nonces (Some plan) state effect
with_bindings now draft nonces plan state after effect bound h =
    record {
      originals_are = h.originals_are;
      again_are = h.again_are;
      records_are = h.records_are;
      moment_is = h.moment_is;
      next_is = h.next_is;
      requests_are = h.requests_are;
      dialogs_are = h.dialogs_are;
      nonces_are = h.nonces_are;
      bindings_are = subst (AreAfter now plan state.bindings) (sym h.bindings_are) bound;
    }

module _ (server : Server) (a : Arrival) (m : Message) (q : Question) (minute : Option ℕ) (full : Bool) where
  -- ---- what is recorded

  -- a draft of an answer, with what is recorded of it
  abbrev pub Replies : AuditOutcome → ℕ → List Field → AnswerDraft → Type 0
  Replies outcome status extras draft = minute ≡ minute_on server q
      → Drafts full a.now draft (λ nonces. nonces) None (Effects.replied server (arrival_of a) m status extras (Effects.record_of server (arrival_of a) m q outcome ∷ []))

  pub replied_with : (result : Result AnswerDraft AllocError) (outcome : AuditOutcome) (status : ℕ) (extras : List Field) (records : List Record) (read : Message)
      → read ≡ m
      → ((s : Server) → minute ≡ minute_on s q → records ≡ Effects.record_of s (arrival_of a) read q outcome ∷ [])
      → IfOk result (λ draft. Drafts full a.now draft (λ nonces. nonces) None (Effects.replied server (arrival_of a) m status extras records))
      → IfOk result (Replies outcome status extras)
  replied_with (Ok draft) outcome status extras records read same made h = λ is.
      subst (λ (rs : List Record). Drafts full a.now draft (λ nonces. nonces) None (Effects.replied server (arrival_of a) m status extras rs))
      (made server is ∙ ap (λ (x : Message). Effects.record_of server (arrival_of a) x q outcome ∷ []) same) h
  replied_with (Err e) outcome status extras records read same made h = tt

  -- ---- challenge and denial

  pub challenged_with : (result : Result AnswerDraft AllocError) (status : ℕ) (extras : List Field) → status ≡ Effects.challenge_status q.operation
      → extras ≡ Effects.challenges_to server (arrival_of a) q
      → IfOk result (Replies (AuditOutcome.Challenge status) status extras)
      → IfOk result (λ draft. minute ≡ minute_on server q → Drafts full a.now draft (λ nonces. issued (used nonces a.now q.proof) a.word a.now) None
      (Effects.challenged server (arrival_of a) m q))
  challenged_with (Ok draft) status extras status_is extras_are h = λ is state room.
      let nonces : List Nonce = issued (used state.nonces a.now q.proof) a.word a.now in
      let h' : Replies (AuditOutcome.Challenge (Effects.challenge_status q.operation)) (Effects.challenge_status q.operation)
      (Effects.challenges_to server (arrival_of a) q)
      draft =
      subst (λ (s : ℕ). Replies (AuditOutcome.Challenge s) s (Effects.challenges_to server (arrival_of a) q) draft) status_is
      (subst (λ (fs : List Field). Replies (AuditOutcome.Challenge status) status fs draft) extras_are h) in
      with_nonces a.now draft nonces state (Effects.challenged server (arrival_of a) m q state) (h' is (record state { nonces = nonces }) room)
  challenged_with (Err e) status extras status_is extras_are h = tt

  pub denied_with : (result : Result AnswerDraft AllocError) (rule : ℕ) (extras : List Field) → extras ≡ denial_warning server.config.own rule ∷ []
      → IfOk result (Replies (AuditOutcome.Deny rule) 403 extras)
      → IfOk result (λ draft. minute ≡ minute_on server q → Drafts full a.now draft (λ nonces. used nonces a.now q.proof) None
      (Effects.denied server (arrival_of a) m q rule))
  denied_with (Ok draft) rule extras extras_are h = λ is state room.
      let nonces : List Nonce = used state.nonces a.now q.proof in
      let h' : Replies (AuditOutcome.Deny rule) 403 (denial_warning server.config.own rule ∷ []) draft =
      subst (λ (fs : List Field). Replies (AuditOutcome.Deny rule) 403 fs draft) extras_are h in
      with_nonces a.now draft nonces state (Effects.denied server (arrival_of a) m q rule state) (h' is (record state { nonces = nonces }) room)
  denied_with (Err e) rule extras extras_are h = tt

  -- ---- an answer to what was let through

  -- a draft of it
  abbrev pub Refuses : ℕ → ℕ → List Field → AnswerDraft → Type 0
  Refuses rule status extras draft = minute ≡ minute_on server q → Drafts full a.now draft (λ nonces. used nonces a.now q.proof) None
      (Effects.answered_by_rule server (arrival_of a) m q rule status extras)

  pub refused_with : (result : Result AnswerDraft AllocError) (rule status : ℕ) (extras : List Field)
      → IfOk result (Replies (AuditOutcome.Answer rule status) status extras)
      → IfOk result (Refuses rule status extras)
  refused_with (Ok draft) rule status extras h = λ is state room.
      let nonces : List Nonce = used state.nonces a.now q.proof in
      with_nonces a.now draft nonces state (Effects.answered_by_rule server (arrival_of a) m q rule status extras state) (h is (record state { nonces = nonces }) room)
  refused_with (Err e) rule status extras h = tt

  pub unsent_with : (result : Result AnswerDraft AllocError) (rule status : ℕ) (extras : List Field) (targets : Targets) → are_nobody targets ≡ true
      → status ≡ nobody_status targets → extras ≡ []
      → IfOk result (Refuses rule status extras)
      → IfOk result (λ draft. minute ≡ minute_on server q → Drafts full a.now draft (λ nonces. used nonces a.now q.proof) None
      (Effects.sending server (arrival_of a) m q rule targets))
  unsent_with (Ok draft) rule status extras NotFound nobody status_is extras_are h = subst (λ (s : ℕ). Refuses rule s [] draft) status_is
      (subst (λ (fs : List Field). Refuses rule status fs draft) extras_are h)
  unsent_with (Ok draft) rule status extras Unavailable nobody status_is extras_are h =
      subst (λ (s : ℕ). Refuses rule s [] draft) status_is (subst (λ (fs : List Field). Refuses rule status fs draft) extras_are h)
  unsent_with (Ok draft) rule status extras (Bindings targets) nobody status_is extras_are h = absurd (true≢false (sym nobody))
  unsent_with (Ok draft) rule status extras (Hop uri address) nobody status_is extras_are h = absurd (true≢false (sym nobody))
  unsent_with (Err e) rule status extras targets nobody status_is extras_are h = tt

  -- ---- registration

  -- what a draft does of a registration by a plan
  abbrev pub Binds : ℕ → Planned → AnswerDraft → Type 0
  Binds rule plan draft = (rows after : List Binding) (r : Registration) → IsPlan rows r a.now plan → registered rows r a.now ≡ Ok after → plan.aor ≡ q.target
      → Refuses rule 200 (Effects.contact_fields a.now q.target after) draft

  pub bound_with : (result : Result AnswerDraft AllocError) (rule : ℕ) (extras : List Field) (plan : Planned)
      → ((rows after : List Binding) (r : Registration) → IsPlan rows r a.now plan → registered rows r a.now ≡ Ok after
      → extras ≡ Effects.contact_fields a.now plan.aor after)
      → IfOk result (Refuses rule 200 extras)
      → IfOk result (Binds rule plan)
  bound_with (Ok draft) rule extras plan lists h = λ rows after r is_plan comes for.
      subst (λ (fs : List Field). Refuses rule 200 fs draft) (lists rows after r is_plan comes ∙ ap (λ aor. Effects.contact_fields a.now aor after) for) h
  bound_with (Err e) rule extras plan lists h = tt

  bound_by : (draft : AnswerDraft) (rule : ℕ) (plan : Planned) (state : ProxyState) (r : Registration) (outcome : Result (List Binding) LocationError)
      → registered state.bindings r a.now ≡ outcome → IsOk outcome
      → minute ≡ minute_on server q → is_full state ≡ full → IsPlan state.bindings r a.now plan → plan.aor ≡ q.target → Binds rule plan draft
      → Does a.now draft (used state.nonces a.now q.proof) (Some plan) state (Effects.registering server (arrival_of a) m q rule (registered_by outcome) state)
  bound_by draft rule plan state r (Ok after) comes ok is room is_plan for h =
      with_bindings a.now draft (used state.nonces a.now q.proof) plan state after (Effects.registering server (arrival_of a) m q rule (Bound after) state)
      (record { registration = r; is_plan = is_plan; registered_are = comes }) (h state.bindings after r is_plan comes for is (record state { bindings = after }) room)
  bound_by draft rule plan state r (Err e) comes ok is room is_plan for h = absurd (true≢false (sym ok))

  pub planned_with : (result : Result AnswerDraft AllocError) (rule : ℕ) (plan : Planned) → IfOk result (Binds rule plan)
      → IfOk result (λ draft. minute ≡ minute_on server q → (state : ProxyState) (outcome : Registered) → is_full state ≡ full
      → IsPlanned state.bindings a.now q.target outcome plan
      → Does a.now draft (used state.nonces a.now q.proof) (Some plan) state (Effects.registering server (arrival_of a) m q rule outcome state))
  planned_with (Ok draft) rule plan h = λ is state outcome room planned.
      subst (λ (x : Registered). Does a.now draft (used state.nonces a.now q.proof) (Some plan) state (Effects.registering server (arrival_of a) m q rule x state))
      (sym planned.comes_to)
      (bound_by draft rule plan state planned.registration (registered state.bindings planned.registration a.now) refl planned.is_plan.0 is room planned.is_plan
      planned.is_for h)
  planned_with (Err e) rule plan h = tt

-- ---- what is opened

-- an answer that is final opens what can be opened
pub opens_final : (result : Result AnswerDraft AllocError) (a : Arrival) (key : TransactionKey) (status : ℕ) → IsFinalAnswer status
    → IfOk result (λ draft. IsFinalAnswer status → IfSome draft.opened (IsOpenable a key))
    → IfOk result (λ draft. IfSome draft.opened (IsOpenable a key))
opens_final (Ok draft) a key status final h = h final
opens_final (Err e) a key status final h = tt

-- the status of a challenge is final
challenge_by : (b : Bool) → IsFinalAnswer (cond b 401 407)
challenge_by true = refl
challenge_by false = refl

pub challenge_final : (operation : Operation) (status : ℕ) → status ≡ Effects.challenge_status operation → IsFinalAnswer status
challenge_final operation status is = subst IsFinalAnswer (sym is) (challenge_by (Effects.is_registration operation))

-- and so is that for a request that goes to nobody
nobody_by : (targets : Targets) → IsFinalAnswer (nobody_status targets)
nobody_by (Bindings targets) = refl
nobody_by (Hop uri address) = refl
nobody_by NotFound = refl
nobody_by Unavailable = refl

pub nobody_final : (targets : Targets) (status : ℕ) → status ≡ nobody_status targets → IsFinalAnswer status
nobody_final targets status is = subst IsFinalAnswer (sym is) (nobody_by targets)
