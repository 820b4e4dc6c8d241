-- What a verdict on a datagram does sends what is owed.
use Rattle.std.proofs.Common.{◌≡◌, ◌∙◌, ℕ, ◌+◌, ◌≤◌, ◌&&◌, not, is_some, List, [], ◌∷◌, ◌++◌, length, map, filter, flat_map, cond, codes, bytes_eq, Bool, true, false}
use Rattle.std.proofs.Common.{refl, sym, ap, ap₂, subst, Contains, Option, Some, None, IfSome, true≢false, arith}
use Rattle.std.specs.List.{AllByRecursion}
use Rattle.sip_uri.specs.declared.aor.Aor.{Aor}
use Rattle.sip_message_fields.specs.declared.field.Field.{Field}
use Rattle.sip_message_form.specs.declared.message.Message.{Message}
use Rattle.sip_message_form.specs.Text.{text_of}
use Rattle.sip_header.specs.declared.core_fields.CoreFields.{CoreFields}
use Rattle.sip_uri.specs.declared.addr.Addr.{Addr}
use Rattle.sip_edit_response.specs.Extras.{denial_warning}
use Rattle.sip_edit.specs.Onward.{onward_uri, with_record_route}
use Rattle.sip_policy.specs.declared.decision.Decision.{Decision}
use Rattle.sip_policy.specs.declared.operation.Operation.{Operation}
use Rattle.sip_best.specs.declared.final_answer.Final.{Final}
use Rattle.sip_location.specs.Binding.{live}
use Rattle.sip_targets.specs.declared.target.Target.{Target}
use Rattle.sip_targets.specs.declared.targets.Targets.{Targets}
use Rattle.sip_targets.specs.Targets.{target_list}
use Rattle.sip_dialog.specs.declared.dialog.DialogId.{DialogId}
use Rattle.sip_audit.specs.declared.record.Record.{Record}
use Rattle.sip_event.specs.declared.packet.Packet.{Packet}
use Rattle.model_steps.specs.state.declared.server.Server.{Server}
use Rattle.model_steps.specs.state.declared.branch.Branch.{Branch}
use Rattle.model_steps.specs.state.declared.open_request.OpenRequest.{OpenRequest}
use Rattle.model_steps.specs.state.declared.proxy_state.ProxyState.{ProxyState}
use Rattle.model_steps.specs.state.State.{is_invite}
use Rattle.model_steps.specs.context_model.Sending.{made_answer, branch_packets, request_of, onward_as, begins_dialog}
use Rattle.model_steps.specs.state.declared.open_request.Upward.{Upward}
use Rattle.model_steps.specs.context_model.Branches.{Change, settled, answered, responded, cancelled, acknowledged, is_ready, is_cancellable, cancel_branch, new_cancels}
use Rattle.model_steps.specs.state.Arrival.{Arrival}
use Rattle.model_steps.specs.verdict_model.declared.question.Question.{Question}
use Rattle.model_steps.specs.verdict_model.Verdict.{Registered, Bound, Refused, Verdict, Drop, Respond, Copy, AckOn, Cancel, Answer, InDialog, Challenge, Deny, Send}
use Rattle.model_steps.specs.verdict_model.Verdict.{Register, is_full, question_of, request_targets}
use Rattle.model_steps.specs.context_model.Opening.{arriving, branches_from, unsent, forking, is_tried, trying, tried, dialog_branch}
use Rattle.model_steps.specs.Effect.{upward_packets, change_packets, Effect, replaced, changed, nothing, opened, replied, is_registration, challenge_status, registering}
use Rattle.model_steps.specs.Effect.{forked, sent_to, sending, renewing, copied, cancelling, counted, asked, issuing, method_of, effect_of}
use Rattle.model_steps.specs.Step.{Act}
use Rattle.sip_model.specs.Run.{Link}
use Rattle.sip_model.specs.Access.{CameFor, IsNewRequest, IsSaidAt, IsOpen, IsDenied, Brought, Before, ToTarget, Answers, InKnownDialog, decision_on, targets_on}
use Rattle.sip_model.specs.Access.{requests_to}
use Rattle.sip_model.proofs.Sixteen.{few_targets, numbered_to_sixteen}
use Rattle.sip_model.proofs.Apart.{TargetsDiffer, one_differs, from_differ}
use Rattle.sip_model.proofs.Lists.{all_append, all_map, all_weaker, all_every, all_contains, all_there}
use Rattle.sip_model.proofs.Finals.{IsHonest, IsMarked, IsOfSixteen, IsHonestRequest, AreHonest, honest_anyway}
use Rattle.sip_model.proofs.Later.{IsLater, later_itself, later_tried, later_acknowledged, later_honest}
use Rattle.sip_model.proofs.Due.{Owed, MayGoUp, Made, IsDue, IsAcknowledgeable, new_goes_up, settled_due, responded_due, cancelled_due, upward_owed, change_owed}
use Rattle.sip_model.proofs.Due.{replaced_honest}
use Rattle.sip_model.proofs.Fitting.{Fits, IsResponding, IsBrought, IsInside, IsAsked, IsSending, RefusesOtherwise, within_known, brought, registration_other}

-- ---- the branches of a new request

-- no branch is to be cancelled
none_cancelled : (xs : List Branch) → AllByRecursion (λ (b : Branch). b.wants_cancel ≡ false) xs → filter is_cancellable xs ≡ []
none_cancelled [] h = refl
none_cancelled (x ∷ xs) h = by_tests x.is_cancel x.wants_cancel h.0 (none_cancelled xs h.1) where
  by_tests : (t u : Bool) → u ≡ false → filter is_cancellable xs ≡ [] → cond (not t && u && is_ready x.phase) (x ∷ filter is_cancellable xs) (filter is_cancellable xs)
      ≡ []
  by_tests t true e rest = absurd (cc)
  by_tests true false e rest = rest
  by_tests false false e rest = rest

-- none of those to targets is
targets_uncancelled : (now number : ℕ) (targets : List Target) → AllByRecursion (λ (b : Branch). b.wants_cancel ≡ false) (branches_from now number targets)
targets_uncancelled now number [] = tt
targets_uncancelled now number (t ∷ ts) = (refl, targets_uncancelled now (number + 1) ts)

-- what goes to the caller changes no branch
tried_branches : (now : ℕ) (us : List Upward) (r : OpenRequest) → (tried now us r).branches ≡ r.branches
tried_branches now [] r = refl
tried_branches now (u ∷ us) r = tried_branches now us (answered now u r)

-- nor any final answer that is kept
tried_finals : (server : Server) (now : ℕ) (r : OpenRequest) → (tried now (trying server r) r).finals ≡ r.finals
tried_finals server now r = by_test (is_tried r) where
  by_test : (t : Bool) → (tried now (cond t (record { status = 100; message = made_answer server r.number r.request.message r.request.source 100 []; target = None } ∷ [])
      []) r).finals
      ≡ r.finals
  by_test true = refl
  by_test false = refl

-- the answers that stand for branches without an address are honest
unsent_honest : (server : Server) (history : List Link) (number : ℕ) (branches : List Branch) → AllByRecursion (IsHonest server history number) (unsent branches)
unsent_honest server history number branches =
    all_map (IsHonest server history number) (λ (b : Branch). record { status = 503; message = None }) (filter (λ (b : Branch). not (is_some b.address)) branches)
    (all_every (λ (b : Branch). IsHonest server history number (record { status = 503; message = None })) (λ b e. omega arith)
    (filter (λ (b : Branch). not (is_some b.address)) branches))

-- ---- effects

module _ (server : Server) (history : List Link) (state : ProxyState) (act : Act) where
  -- an effect sends what is owed, and leaves honest answers
  pub record IsGood (effect : Effect) : Type 0 where
    pub sends : AllByRecursion (Owed server history state act state.bindings) effect.originals
    pub honest : AreHonest server history effect.state.requests

  -- nothing is sent
  pub nothing_good : (s : ProxyState) → AreHonest server history s.requests → IsGood (nothing s)
  nothing_good s h = record { sends = tt; honest = h }

  -- what a change leaves is honest
  left_honest : (r : OpenRequest) (c : Change) → IsDue server history state act state.bindings r c → IsHonestRequest server history c.request
  left_honest r c due =
      record {
        finals = subst (λ (q : OpenRequest). AllByRecursion (IsHonest server history q.number) c.request.finals) (sym due.is_same) due.finals;
        marks = subst (λ (q : OpenRequest). AllByRecursion (IsMarked q) c.request.branches) (sym due.is_same) due.marks;
        differ = due.differ;
        numbers = due.numbers;
      }

  -- the change of an open request
  pub changed_good : (now : ℕ) (s : ProxyState) (r : OpenRequest) (c : Change) → Contains state.requests r → IsDue server history state act state.bindings r c
      → AreHonest server history s.requests
      → IsGood (changed server now s c)
  changed_good now s r c there due h =
      record {
        sends = change_owed server history state act state.bindings r c (Before r there) due;
        honest = replaced_honest server history c.request s.requests (left_honest r c due) h;
      }

  -- an open request is honest
  pub kept_honest : (r : OpenRequest) → Contains state.requests r → AreHonest server history state.requests → IsHonestRequest server history r
  kept_honest r there h = all_contains (IsHonestRequest server history) state.requests r h there

  -- one more open request
  opened_honest : (r : OpenRequest) (s : ProxyState) → IsHonestRequest server history r → AreHonest server history s.requests → AreHonest server history (opened r s)
  opened_honest r s own h = by_test (is_full s) where
    by_test : (t : Bool) → AreHonest server history (cond t s.requests (s.requests ++ r ∷ []))
    by_test true = h
    by_test false = all_append (IsHonestRequest server history) s.requests (r ∷ []) h (own, tt)

  module _ (a : Arrival) (bytes : List ℕ) (m : Message) (short : Bool) (said : IsSaidAt state act a bytes m short) where
    -- a request that the step's datagram brings is answered here
    opened_by : IsBrought state m → IsOpen state act a.number m a.from
    opened_by h = Brought a bytes m short h.key said h.key_is h.is_new h.is_no_ack

    -- a valid new request is one that is brought
    new_brought : (method : List ℕ) (core : CoreFields) → IsNewRequest server state bytes m method core → IsBrought state m
    new_brought method core h = brought state m method h.uri h.version h.key h.is_request h.key_is h.is_new h.is_no_ack

    -- it is answered here
    opened_new : (method : List ℕ) (core : CoreFields) → IsNewRequest server state bytes m method core → IsOpen state act a.number m a.from
    opened_new method core h = opened_by (new_brought method core h)

    -- it is said with its whole body
    said_new : (method : List ℕ) (core : CoreFields) → IsNewRequest server state bytes m method core → IsSaidAt state act a bytes m false
    said_new method core h = record { at = said.at; word = said.word; from = said.from; is_act = said.is_act; is_arrival = said.is_arrival; says = h.says }

    -- a message that came with its whole body is said so
    said_whole : short ≡ false → IsSaidAt state act a bytes m false
    said_whole whole = subst (λ t. IsSaidAt state act a bytes m t) whole said

    -- a request is answered at once
    replied_good : (status : ℕ) (extras : List Field) (records : List Record) (s : ProxyState) → IsOpen state act a.number m a.from
        → ((status ≡ 403) → IsDenied server state act a.number m extras) → AreHonest server history s.requests → IsGood (replied server a m status extras records s)
    replied_good status extras records s opened denial h =
        record {
          sends = (Answers a.number m a.from status extras opened denial refl, tt);
          honest = opened_honest _ s (record { finals = tt; marks = tt; differ = λ number. omega arith; numbers = tt }) h;
        }

    -- by another status than 403
    answered_good : (status : ℕ) (extras : List Field) (records : List Record) (s : ProxyState) → IsOpen state act a.number m a.from → ((status ≡ 403) → ⊥)
        → AreHonest server history s.requests → IsGood (replied server a m status extras records s)
    answered_good status extras records s opened other h = replied_good status extras records s opened (λ e. absurd (other e)) h

    -- no challenge is a 403
    challenge_other : (q : Operation) → (challenge_status q ≡ 403) → ⊥
    challenge_other q = by_test (is_registration q) where
      by_test : (t : Bool) → (cond {A = ℕ} t 401 407 ≡ 403) → ⊥
      by_test true e = omega arith
      by_test false e = omega arith

    -- a request in a dialog goes where the dialog allows
    within_owed : (address : Addr) (id : DialogId) → IsInside server state a m short address id → (p : Packet) → p.to ≡ address
        → p.bytes ≡ text_of (onward_as server a.number m a.from (onward_uri server.config.own m) 1) → p.ticket.datagram ≡ a.number
        → Owed server history state act state.bindings p
    within_owed address id h p goes says numbered = InKnownDialog a m address (within_known server state act a bytes m short address id said h) goes says numbered

    -- a request of a dialog begins none, and has no Record-Route
    plain_onward : (address : Addr) (id : DialogId) → IsInside server state a m short address id
        → text_of (request_of server (forking a m (dialog_branch server a.now m address ∷ [])) (dialog_branch server a.now m address))
        ≡ text_of (onward_as server a.number m a.from (onward_uri server.config.own m) 1)
    plain_onward address id h =
        let plain : begins_dialog (forking a m (dialog_branch server a.now m address ∷ [])) ≡ false =
        ap (λ o. is_invite (arriving a m) && not (is_some o)) h.has_dialog ∙ never (is_invite (arriving a m))
        in
        ap (λ t. text_of (cond t (with_record_route server.config.own (onward_as server a.number m a.from (onward_uri server.config.own m) 1))
        (onward_as server a.number m a.from (onward_uri server.config.own m) 1))) plain where
          never : (t : Bool) → (t && false) ≡ false
          never true = refl
          never false = refl

    -- a request is sent to its branches, and is open from now on
    forked_good : (branches : List Branch) (records : List Record) (s : ProxyState) → AllByRecursion (λ (b : Branch). b.wants_cancel ≡ false) branches
        → TargetsDiffer branches → AllByRecursion IsOfSixteen branches
        → AllByRecursion (Owed server history state act state.bindings) (flat_map (branch_packets server false (forking a m branches)) branches)
        → IsOpen state act a.number m a.from
        → AreHonest server history s.requests → IsGood (forked server a.now (forking a m branches) records s)
    forked_good branches records s unwanted differ numbers sent opened h =
        let r : OpenRequest = forking a m branches in
        let begun : OpenRequest = tried a.now (trying server r) r in
        let owed : Packet → Type 0 = Owed server history state act state.bindings in
        let fresh : IsHonestRequest server history r =
        record {
          finals = honest_anyway server history a.number (unsent branches) (unsent_honest server [] a.number branches);
          marks = all_weaker (λ (b : Branch). b.wants_cancel ≡ false) (IsMarked r) (λ b unmarked wanted. absurd (true≢false (sym wanted ∙ unmarked))) branches unwanted;
          differ = differ;
          numbers = numbers;
        }
        in
        let later : IsLater server history state act r begun = later_tried server history state act r a.now (trying server r) r
        (later_itself server history state act r fresh) in
        let no_cancels : (after : OpenRequest) → after.branches ≡ begun.branches → new_cancels a.now after ≡ [] =
        λ after same.
        ap (λ (bs : List Branch). map (cancel_branch a.now) (filter is_cancellable bs)) (same ∙ tried_branches a.now (trying server r) r)
        ∙ ap (map (cancel_branch a.now)) (none_cancelled branches unwanted)
        in
        let due : IsDue server history state act state.bindings r (settled server a.now [] None begun) =
        settled_due server history state act state.bindings a.now r begun [] None later tt tt
        (λ told end same.
        new_goes_up server history state act state.bindings r told end.is_same
        (same (subst (λ (fs : List Final). AllByRecursion (IsHonest server [] a.number) fs) (sym (tried_finals server a.now r))
        (unsent_honest server [] a.number branches))))
        (λ after end same. subst (λ (bs : List Branch). AllByRecursion owed (flat_map (branch_packets server false after) bs)) (sym (no_cancels after same)) tt)
        in
        record {
          sends =
              all_append owed (upward_packets r (trying server r) ++ change_packets (settled server a.now [] None begun))
              (flat_map (branch_packets server false r) branches)
              (all_append owed (upward_packets r (trying server r)) (change_packets (settled server a.now [] None begun))
              (upward_owed server history state act state.bindings r r (trying server r) opened refl (trying_answers (is_tried r)))
              (change_owed server history state act state.bindings r (settled server a.now [] None begun) opened due)) sent;
          honest = opened_honest (settled server a.now [] None begun).request s (left_honest r (settled server a.now [] None begun) due) h;
        } where
          trying_answers : (t : Bool) → AllByRecursion (MayGoUp server history state act state.bindings (forking a m branches))
              (cond t (record { status = 100; message = made_answer server a.number m a.from 100 []; target = None } ∷ []) [])
          trying_answers true = (Made 100 [] (λ e. absurd (omega arith)), tt)
          trying_answers false = tt

    -- a request that was let through is sent to its targets
    targets_good : (targets : List Target) (q : Question) (id : ℕ) (s : ProxyState) → length targets ≤ 16
        → AllByRecursion (Owed server history state act state.bindings) (requests_to server a m targets) → IsOpen state act a.number m a.from
        → AreHonest server history s.requests
        → IsGood (sent_to server a m q id targets s)
    targets_good targets q id s few sent opened h =
        forked_good (branches_from a.now 1 targets) _ (asked a q s) (targets_uncancelled a.now 1 targets) (from_differ a.now 1 targets)
        (numbered_to_sixteen a.now 1 targets (omega (arith, few))) sent opened h

    -- a request that was let through is sent to its targets, or answered by 404 or 480
    sending_good : (q : Question) (id : ℕ) (targets : Targets) (s : ProxyState) → length (target_list targets) ≤ 16
        → AllByRecursion (Owed server history state act state.bindings) (requests_to server a m (target_list targets))
        → IsOpen state act a.number m a.from → AreHonest server history s.requests → IsGood (sending server a m q id targets s)
    sending_good q id Targets.NotFound s few sent opened h = answered_good 404 [] _ (asked a q s) opened (λ e. omega arith) h
    sending_good q id Targets.Unavailable s few sent opened h = answered_good 480 [] _ (asked a q s) opened (λ e. omega arith) h
    sending_good q id (Targets.Bindings targets) s few sent opened h = targets_good targets q id s few sent opened h
    sending_good q id (Targets.Hop uri address) s few sent opened h = targets_good (record { uri = uri; address = Some address } ∷ []) q id s few sent opened h

    -- these targets are those that the rules give
    targets_same : (q : Question) (id : ℕ) (targets : Targets) (h : IsSending server state a bytes m q id targets)
        → target_list targets ≡ targets_on server state.bindings state a.now m h.asked.method h.asked.core
    targets_same q id targets h =
        ap target_list h.targets_are ∙ ap₂ (λ x d. target_list (request_targets server state.bindings a.now m x d)) h.asked.question (sym h.asked.decision)
        ∙ sym (ap (λ t. cond t [] (target_list (request_targets server state.bindings a.now m (question_of server state.nonces a.now m h.asked.method h.asked.core)
        (decision_on server state a.now m h.asked.method h.asked.core)))) h.is_other)

    -- what is sent to them is owed
    targets_owed : (q : Question) (id : ℕ) (targets : Targets) → IsSending server state a bytes m q id targets
        → AllByRecursion (Owed server history state act state.bindings) (requests_to server a m (target_list targets))
    targets_owed q id targets h =
        let rows : List Target = targets_on server state.bindings state a.now m h.asked.method h.asked.core in
        subst (λ (ts : List Target). AllByRecursion (Owed server history state act state.bindings) (requests_to server a m ts)) (sym (targets_same q id targets h))
        (all_weaker (Contains (requests_to server a m rows)) (Owed server history state act state.bindings)
        (λ p there. ToTarget a bytes m h.asked.method h.asked.core (said_new h.asked.method h.asked.core h.asked.is_new) h.asked.is_new there)
        (requests_to server a m rows) (all_there (requests_to server a m rows)))

    -- a REGISTER that was let through
    registering_good : (q : Question) (id : ℕ) (outcome : Registered) (s : ProxyState) → RefusesOtherwise outcome → IsOpen state act a.number m a.from
        → AreHonest server history s.requests
        → IsGood (registering server a m q id outcome s)
    registering_good q id (Bound after) s other opened h = answered_good 200 _ _ (asked a q (record s { bindings = after })) opened (λ e. omega arith) h
    registering_good q id (Refused status extras) s other opened h = answered_good status extras _ (asked a q s) opened other.1 h

    -- a copy of an open request
    copied_good : (r : OpenRequest) (s : ProxyState) → IsHonestRequest server history r → AreHonest server history s.requests → IsGood (copied a m r s)
    copied_good r s own h = record { sends = tt; honest = by_test (bytes_eq (method_of m.start) (codes "ACK")) } where
      by_test : (t : Bool) → AreHonest server history (cond t (record s { requests = replaced (acknowledged a.now r) s.requests }) s).requests
      by_test true =
          let later : IsLater server history state act r (acknowledged a.now r) = later_acknowledged server history state act r a.now r
          (later_itself server history state act r own) in
          replaced_honest server history (acknowledged a.now r) s.requests
          (later_honest server history state act r (acknowledged a.now r) later) h
      by_test false = h

    -- a CANCEL
    cancelling_good : (found : Option OpenRequest) (s : ProxyState) → IfSome found (Contains state.requests) → IsOpen state act a.number m a.from
        → AreHonest server history state.requests
        → AreHonest server history s.requests → IsGood (cancelling server a m found s)
    cancelling_good None s there opened before h = answered_good 481 [] [] s opened (λ e. omega arith) h
    cancelling_good (Some r) s there opened before h =
        let answer : IsGood (replied server a m 200 [] [] s) = answered_good 200 [] [] s opened (λ e. omega arith) h in
        let change : IsGood (changed server a.now (replied server a m 200 [] [] s).state (cancelled server a.now r)) =
        changed_good a.now (replied server a m 200 [] [] s).state r (cancelled server a.now r) there
        (cancelled_due server history state act state.bindings a.now r there (kept_honest r there before)) answer.honest
        in
        record {
          sends =
              all_append (Owed server history state act state.bindings) (replied server a m 200 [] [] s).originals
              (changed server a.now (replied server a m 200 [] [] s).state (cancelled server a.now r)).originals answer.sends change.sends;
          honest = change.honest;
        }

    -- a denial names its rule
    denied_good : (q : Question) (id : ℕ) (records : List Record) (s : ProxyState) → IsAsked server state a bytes m q (Decision.Deny id)
        → AreHonest server history s.requests
        → IsGood (replied server a m 403 (denial_warning server.config.own id ∷ []) records s)
    denied_good q id records s fits h =
        let denial : IsDenied server state act a.number m (denial_warning server.config.own id ∷ []) =
        record {
          a = a;
          bytes = bytes;
          method = fits.method;
          core = fits.core;
          id = id;
          is_said = said_new fits.method fits.core fits.is_new;
          is_number = refl;
          is_new = fits.is_new;
          denial = fits.decision;
          names_rule = refl;
        }
        in
        replied_good 403 (denial_warning server.config.own id ∷ []) records s (opened_new fits.method fits.core fits.is_new) (λ e. denial) h

    -- a response to the request of a branch of an open request that it came for
    responded_good : (r : OpenRequest) (b : Branch) (status : ℕ) → IsResponding server state m short r b status
        → (b.is_cancel ≡ false → CameFor server history r.number status m)
        → AreHonest server history state.requests → IsGood (changed server a.now (counted a state) (responded server a.now r b status m))
    responded_good r b status fits came h =
        let ack : IsAcknowledgeable server history state act state.bindings r b status m =
        record {
          in_it = fits.in_it;
          a = a;
          bytes = bytes;
          reason = fits.reason;
          is_said = said_whole fits.is_whole;
          is_response = fits.is_response;
          is_for = fits.is_for;
        }
        in
        changed_good a.now (counted a state) r (responded server a.now r b status m) fits.there
        (responded_due server history state act state.bindings a.now r b status m fits.there ack came (kept_honest r fits.there h)) h

    -- what a verdict that fits does is good, where each response came for its branch
    pub effect_good : (v : Verdict) → Fits server state a bytes m short v
        → ((r : OpenRequest) (b : Branch) (status : ℕ) → IsResponding server state m short r b status → b.is_cancel ≡ false → CameFor server history r.number status m)
        → ((aor : Aor) → length (live aor a.now state.bindings) ≤ 16) → AreHonest server history state.requests → IsGood (effect_of server a m v (counted a state))
    effect_good Drop fits came few h = nothing_good (counted a state) h
    effect_good (Respond r b status) fits came few h = let good = responded_good r b status fits (came r b status fits) h in
        record { sends = good.sends; honest = good.honest }
    effect_good (Copy r) fits came few h = copied_good r (counted a state) (kept_honest r fits.there h) h
    effect_good (AckOn address id) fits came few h = record { sends = (within_owed address id fits.0 _ refl refl refl, tt); honest = h }
    effect_good (Cancel found) fits came few h = cancelling_good found (counted a state) fits.there (opened_by fits.brought) h h
    effect_good (Answer status extras) fits came few h = answered_good status extras [] (counted a state) (opened_by fits.0) fits.1.1 h
    effect_good (InDialog address id) fits came few h =
        forked_good (dialog_branch server a.now m address ∷ []) [] (renewing server a m id (counted a state)) (refl, tt)
        (one_differs (dialog_branch server a.now m address)) (omega arith, tt)
        (within_owed address id fits.1 _ refl (plain_onward address id fits.1) refl, tt) (opened_by fits.0) h
    effect_good (Challenge q) fits came few h =
        answered_good (challenge_status q.operation) _ _ (issuing a (asked a q (counted a state))) (opened_new fits.method fits.core fits.is_new)
        (challenge_other q.operation) h
    effect_good (Deny q id) fits came few h = denied_good q id _ (asked a q (counted a state)) fits h
    effect_good (Send q id targets) fits came few h =
        sending_good q id targets (counted a state)
        (subst (λ (ts : Targets). length (target_list ts) ≤ 16) (sym fits.targets_are) (few_targets server state.bindings a.now m q fits.decision few))
        (targets_owed q id targets fits) (opened_new fits.asked.method fits.asked.core fits.asked.is_new) h
    effect_good (Register q id outcome) fits came few h =
        registering_good q id outcome (counted a state) (subst RefusesOtherwise (sym fits.outcome_is) (registration_other server state.bindings a.now m fits.asked.core))
        (opened_new fits.asked.method fits.asked.core fits.asked.is_new) h
