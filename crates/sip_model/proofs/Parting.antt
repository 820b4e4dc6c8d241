-- The parts of what a datagram does.
use Rattle.std.proofs.Common.{◌≡◌, ◌∙◌, ℕ, ◌+◌, Bool, true, false, cond, List, [], ◌∷◌, ◌++◌, codes, Option, Some, None, refl, sym, ap, subst, count_by, bytes_eq}
use Rattle.std.proofs.Common.{Contains}
use Rattle.std.specs.Option.{option_map_or, unwrap_or}
use Rattle.std.proofs.lemmas.List.Elements.{Contains-append_left}
use Rattle.sip_message_fields.specs.declared.field.Field.{Field}
use Rattle.sip_message_form.specs.declared.message.Message.{Message}
use Rattle.sip_message.specs.Reading.{reading_of}
use Rattle.sip_targets.specs.declared.target.Target.{Target}
use Rattle.sip_targets.specs.declared.targets.Targets.{Targets}
use Rattle.sip_transaction_table.specs.Key.{key_of}
use Rattle.sip_edit_response.specs.Extras.{denial_warning}
use Rattle.sip_policy.specs.declared.operation.Operation.{Operation}
use Rattle.sip_policy.specs.declared.decision.Decision.{Decision}
use Rattle.sip_event.specs.declared.packet.Packet.{Packet}
use Rattle.model_steps.specs.state.declared.server.Server.{Server}
use Rattle.model_steps.specs.state.declared.branch.Branch.{Branch}
use Rattle.model_steps.specs.state.declared.open_request.OpenRequest.{OpenRequest}
use Rattle.model_steps.specs.state.declared.proxy_state.ProxyState.{ProxyState}
use Rattle.model_steps.specs.state.State.{has_key, is_provisional}
use Rattle.model_steps.specs.state.Arrival.{Arrival}
use Rattle.model_steps.specs.context_model.Branches.{responded, cancelled, acknowledged}
use Rattle.model_steps.specs.context_model.Sending.{answer_packet}
use Rattle.model_steps.specs.context_model.Opening.{request_key, closing, forking, opening, branch_to, branches_from, dialog_branch}
use Rattle.model_steps.specs.verdict_model.declared.question.Question.{Question}
use Rattle.model_steps.specs.verdict_model.Verdict.{Registered, Bound, Refused, Verdict, Drop, Respond, Copy, AckOn, Cancel, Answer, InDialog, Challenge, Deny, Send}
use Rattle.model_steps.specs.verdict_model.Verdict.{Register, is_full, message_verdict, message_in, verdict_in}
use Rattle.model_steps.specs.context_model.Retransmission.{answers_again}
use Rattle.model_steps.specs.Effect.{Effect, replaced, opened, change_packets, opening_packets, is_registration, challenge_status, challenges_to, contact_fields, counted}
use Rattle.model_steps.specs.Effect.{nothing, sending, registering, method_of, effect_of}
use Rattle.model_steps.specs.Step.{Act}
use Rattle.sip_model.specs.Access.{IsSaidAt, IsNewRequest}
use Rattle.sip_model.specs.Parts.{AreBegun, made_text, IsOpening, Answered, Sent, ByResponse, ByCancel, IsPart, Stays, Passes, Copies, TurnsAway, Opens, Changes}
use Rattle.sip_model.specs.Parts.{Acknowledges, AreParts, One, Two}
use Rattle.sip_model.proofs.Openings.{sent_key}
use Rattle.sip_model.proofs.Places.{none_found}
use Rattle.sip_model.proofs.Verdicts.{IsThereOne, AreNotEmpty, verdict_fits}
use Rattle.sip_model.proofs.Verdicts as Keys
use Rattle.sip_model.proofs.Fitting.{Fits, IsBrought, IsCopy, IsNaming, IsAsked, RefusesOtherwise, within_known, brought, registration_other, message_fits}

-- the branches of targets, as they are first sent
begun : (now number : ℕ) (ts : List Target) → AreBegun now number (branches_from now number ts)
begun now number [] = tt
begun now number (t ∷ ts) = (
  record { is_numbered = refl; is_target = refl; is_wanted = refl; is_due = refl; goes_next = refl; has_no_final = refl },
  begun now (number + 1) ts,
)

-- a challenge is a final answer
challenge_final : (operation : Operation) → is_provisional (challenge_status operation) ≡ false
challenge_final operation = by_test (is_registration operation) where
  by_test : (t : Bool) → is_provisional (cond {A = ℕ} t 401 407) ≡ false
  by_test true = refl
  by_test false = refl

-- a request that is brought has a key
brought_key : (state : ProxyState) (m : Message) (new : IsBrought state m) → request_key m ≡ new.key
brought_key state m new = ap (λ k. unwrap_or k (record { branch = []; host = []; port = 0; method = [] })) new.key_is

-- one that policy was asked about is brought
asked_brought : (server : Server) (state : ProxyState) (a : Arrival) (bytes : List ℕ) (m : Message) (q : Question) (d : Decision) → IsAsked server state a bytes m q d
    → IsBrought state m
asked_brought server state a bytes m q d asked =
    let new : IsNewRequest server state bytes m asked.method asked.core = asked.is_new in
    brought state m asked.method new.uri new.version new.key new.is_request new.key_is new.is_new new.is_no_ack

-- an effect on a state has parts at a moment
abbrev pub HasPartsAt : Server → ProxyState → Act → ℕ → Effect → Type 0
HasPartsAt server state act now effect = AreParts server state act now state.requests effect.state.requests effect.originals effect.again

module _ (server : Server) (state : ProxyState) (act : Act) (a : Arrival) (bytes : List ℕ) (m : Message) (short : Bool) (said : IsSaidAt state act a bytes m short) where
  -- one more request, while there is room
  opens : (r : OpenRequest) (packets : List Packet) → IsBrought state m → r.key ≡ request_key m → IsOpening server a m r packets → (full : Bool) → is_full state ≡ full
      → IsPart server state act a.now state.requests (cond full state.requests (state.requests ++ r ∷ [])) packets []
  opens r packets new named begins = by_room where
    is_named : key_of m ≡ Some r.key
    is_named = new.key_is ∙ ap Some (sym (named ∙ brought_key state m new))

    is_new : count_by (has_key r.key) state.requests ≡ 0
    is_new = subst (λ k. count_by (has_key k) state.requests ≡ 0) (sym (named ∙ brought_key state m new)) (none_found (has_key new.key) state.requests new.is_new)

    by_room : (full : Bool) → is_full state ≡ full → IsPart server state act a.now state.requests (cond full state.requests (state.requests ++ r ∷ [])) packets []
    by_room true is = TurnsAway a bytes m short r said is_named new.is_no_ack begins is refl refl
    by_room false is = Opens a bytes m short r said is_named new.is_no_ack refl begins is is_new refl refl

  -- the packet of an answer that is made at once
  abbrev answers : ℕ → List Field → List Packet
  answers status extras = answer_packet false a.number m a.from (made_text server a m status extras) ∷ []

  -- a request is answered at once
  replies : (status : ℕ) (extras : List Field) → is_provisional status ≡ false → IsBrought state m
      → AreParts server state act a.now state.requests (opened (closing a m status (made_text server a m status extras)) state) (answers status extras) []
  replies status extras final new =
      One (opens (closing a m status (made_text server a m status extras)) (answers status extras) new refl (Answered status extras final) (is_full state) refl)

  -- a request is sent to branches
  sends : (first : Branch) (others : List Branch) → AreBegun a.now 1 (first ∷ others) → IsBrought state m
      → AreParts server state act a.now state.requests (opened (opening server a.now (forking a m (first ∷ others))).request state)
      (opening_packets server a.now (forking a m (first ∷ others))) []
  sends first others started new =
      One (opens (opening server a.now (forking a m (first ∷ others))).request (opening_packets server a.now (forking a m (first ∷ others))) new
      (sent_key server a m (first ∷ others))
      (Sent first others started) (is_full state) refl)

  -- a request is sent to targets
  sends_to : (targets : List Target) → IsThereOne targets → IsBrought state m
      → AreParts server state act a.now state.requests (opened (opening server a.now (forking a m (branches_from a.now 1 targets))).request state)
      (opening_packets server a.now (forking a m (branches_from a.now 1 targets))) []
  sends_to [] some new = absurd some
  sends_to (t ∷ ts) some new = sends (branch_to a.now 1 t) (branches_from a.now (1 + 1) ts) (begun a.now 1 (t ∷ ts)) new

  -- a request that was let through
  sending_parts : (q : Question) (id : ℕ) (targets : Targets) → AreNotEmpty targets → IsBrought state m
      → HasPartsAt server state act a.now (sending server a m q id targets (counted a state))
  sending_parts q id Targets.NotFound some new = replies 404 [] refl new
  sending_parts q id Targets.Unavailable some new = replies 480 [] refl new
  sending_parts q id (Targets.Bindings targets) some new = sends_to targets some new
  sending_parts q id (Targets.Hop uri address) some new = sends_to (record { uri = uri; address = Some address } ∷ []) tt new

  -- a REGISTER that was let through
  registering_parts : (q : Question) (id : ℕ) (outcome : Registered) → RefusesOtherwise outcome → IsBrought state m
      → HasPartsAt server state act a.now (registering server a m q id outcome (counted a state))
  registering_parts q id (Bound rows) final new = replies 200 (contact_fields a.now q.target rows) refl new
  registering_parts q id (Refused status extras) final new = replies status extras final.0 new

  -- a copy gets the last answer again, unless it is an ACK
  copied_parts : (r : OpenRequest) → IsCopy state m r → (t : Bool) → bytes_eq (method_of m.start) (codes "ACK") ≡ t
      → AreParts server state act a.now state.requests (cond t (record (counted a state) { requests = replaced (acknowledged a.now r) state.requests })
      (counted a state)).requests [] (cond t [] (answers_again r r.answer))
  copied_parts r copy true is = One (Acknowledges r copy.there refl refl refl)
  copied_parts r copy false is = One (Copies a bytes m short copy.key r said is copy.key_is copy.is_open refl refl refl)

  -- a CANCEL is answered, and then cancels the request that it names
  cancelling_parts : (r : OpenRequest) → IsNaming state a m (Some r) → (full : Bool) → is_full state ≡ full
      → AreParts server state act a.now state.requests (replaced (cancelled server a.now r).request
      (cond full state.requests (state.requests ++ closing a m 200 (made_text server a m 200 []) ∷ [])))
      (answers 200 [] ++ change_packets (cancelled server a.now r)) []
  cancelling_parts r naming full is =
      Two (cond full state.requests (state.requests ++ closing a m 200 (made_text server a m 200 []) ∷ [])) (answers 200 []) r (cancelled server a.now r)
      (opens (closing a m 200 (made_text server a m 200 [])) (answers 200 []) naming.brought refl (Answered 200 [] refl) full is) naming.there (still_there full)
      (ByCancel a bytes m short naming.key said naming.is_cancel naming.key_is naming.found_is) refl refl refl where
        still_there : (t : Bool) → Contains (cond t state.requests (state.requests ++ closing a m 200 (made_text server a m 200 []) ∷ [])) r
        still_there true = naming.there
        still_there false = Contains-append_left state.requests (closing a m 200 (made_text server a m 200 []) ∷ []) r naming.there

  -- a verdict on a message
  effect_parts : (v : Verdict) → Keys.Fits state.requests m v → Fits server state a bytes m short v
      → HasPartsAt server state act a.now (effect_of server a m v (counted a state))
  effect_parts Drop keys fits = One (Stays refl refl refl)
  effect_parts (Respond r b status) keys fits =
      One (Changes r (responded server a.now r b status m) fits.there
      (ByResponse a bytes m status fits.reason b (subst (λ t. IsSaidAt state act a bytes m t) fits.is_whole said) fits.is_response fits.is_for fits.in_it) refl refl)
  effect_parts (Copy r) keys fits = copied_parts r fits (bytes_eq (method_of m.start) (codes "ACK")) refl
  effect_parts (AckOn address id) keys fits = One (Passes a m address (within_known server state act a bytes m short address id said fits.0) fits.1 refl refl refl)
  effect_parts (Cancel None) keys fits = replies 481 [] refl fits.brought
  effect_parts (Cancel (Some r)) keys fits = cancelling_parts r fits (is_full state) refl
  effect_parts (Answer status extras) keys fits = replies status extras fits.1.0 fits.0
  effect_parts (InDialog address id) keys fits =
      sends (dialog_branch server a.now m address) [] (
        record {
          is_numbered = refl;
          is_target = refl;
          is_wanted = refl;
          is_due = refl;
          goes_next = refl;
          has_no_final = refl;
        },
        tt,
      ) fits.0
  effect_parts (Challenge q) keys fits = replies (challenge_status q.operation) (challenges_to server a q) (challenge_final q.operation)
      (asked_brought server state a bytes m q _ fits)
  effect_parts (Deny q id) keys fits = replies 403 (denial_warning server.config.own id ∷ []) refl (asked_brought server state a bytes m q _ fits)
  effect_parts (Send q id targets) keys fits = sending_parts q id targets keys.1 (asked_brought server state a bytes m q _ fits.asked)
  effect_parts (Register q id outcome) keys fits =
      registering_parts q id outcome (subst RefusesOtherwise (sym fits.outcome_is) (registration_other server state.bindings a.now m fits.asked.core))
      (asked_brought server state a bytes m q _ fits.asked)

-- what bytes say, or say not
pub datagram_parts : (server : Server) (state : ProxyState) (act : Act) (a : Arrival) (bytes : List ℕ)
    → ((m : Message) (short : Bool) → message_in (reading_of bytes) ≡ Some (m, short) → IsSaidAt state act a bytes m short)
    → (o : Option (Message × Bool)) → message_in (reading_of bytes) ≡ o
    → HasPartsAt server state act a.now (option_map_or (λ x. effect_of server a x.0 x.1 (counted a state)) (verdict_in server state a o) (nothing (counted a state)))
datagram_parts server state act a bytes said None says = One (Stays refl refl refl)
datagram_parts server state act a bytes said (Some x) says =
    effect_parts server state act a bytes x.0 x.1 (said x.0 x.1 says) (message_verdict server state a x.0 x.1) (verdict_fits server state a x.0 x.1)
    (message_fits server state a bytes x.0 x.1 says)
