-- What a datagram does is the same in states that are the same.
use Rattle.std.proofs.Common.{◌≡◌, ℕ, ◌≤◌, Bool, true, false, cond, List, [], ◌∷◌, refl, sym, subst, codes, Option, Some, None, bytes_eq}
use Rattle.std.specs.Option.{option_map_or}
use Rattle.sip_message_fields.specs.declared.field.Field.{Field}
use Rattle.sip_message_form.specs.declared.message.Message.{Message}
use Rattle.sip_location.specs.declared.binding.Binding.{Binding}
use Rattle.sip_location.specs.Sameness.{SameBindings}
use Rattle.sip_location.proofs.Sameness.{same_later}
use Rattle.sip_targets.specs.declared.targets.Targets.{Targets}
use Rattle.sip_dialog.specs.declared.dialog.Dialog.{Dialog}
use Rattle.sip_dialog.specs.Sameness.{SameDialogs}
use Rattle.sip_dialog.proofs.Sameness.{dialogs_later}
use Rattle.sip_digest.specs.declared.nonces.Nonce.{Nonce}
use Rattle.sip_digest.specs.Nonces.{issued}
use Rattle.sip_auth.specs.Proof.{used}
use Rattle.sip_audit.specs.declared.record.Record.{Record}
use Rattle.model_steps.specs.state.declared.server.Server.{Server}
use Rattle.model_steps.specs.state.declared.open_request.OpenRequest.{OpenRequest}
use Rattle.model_steps.specs.state.declared.proxy_state.ProxyState.{ProxyState}
use Rattle.model_steps.specs.state.SameState.{SameState}
use Rattle.model_steps.proofs.of_state.Sameness.{after_request_same}
use Rattle.model_steps.specs.state.Arrival.{Arrival}
use Rattle.model_steps.specs.verdict_model.declared.question.Question.{Question}
use Rattle.model_steps.specs.verdict_model.Verdict.{Registered, Bound, Refused, Verdict, Drop, Respond, Copy, AckOn, Cancel, Answer, InDialog, Challenge, Deny, Send}
use Rattle.model_steps.specs.verdict_model.Verdict.{Register, verdict_of}
use Rattle.model_steps.specs.verdict_model.Sameness.{SameRegistered, SameVerdict, Alike, AlikeRegister, SameSaid}
use Rattle.model_steps.proofs.of_verdict_model.Alike.{with_others, others_alone, verdicts_alike}
use Rattle.model_steps.specs.context_model.Branches.{responded, cancelled, settled, acknowledged}
use Rattle.model_steps.specs.context_model.Opening.{forking, branches_from, dialog_branch, tried, trying}
use Rattle.model_steps.specs.Effect.{counted, nothing, replaced, replied, registering, answered_by_rule, sending, forked, copied, method_of, effect_of, datagram_effect}
use Rattle.model_steps.specs.Effect.{contact_fields}
use Rattle.model_steps.specs.SameEffect.{SameEffect}
use Rattle.sip_model.proofs.Sameness.{contact_fields_same, dialogs_after_same}

-- ---- a verdict

module _ (server : Server) (a : Arrival) (m : Message) (s : ProxyState) (rows : List Binding) (dialogs : List Dialog) (bound : SameBindings a.now s.bindings rows)
    (known : SameDialogs a.now s.dialogs dialogs) where
  -- the two states, once the datagram was counted
  abbrev one : ProxyState
  one = counted a s

  abbrev other : ProxyState
  other = counted a (with_others s rows dialogs)

  -- an answer
  replied_alike : (status : ℕ) (extras : List Field) (records : List Record) (nonces : List Nonce)
      → SameEffect (replied server a m status extras records (record one { nonces = nonces }))
      (replied server a m status extras records (record other { nonces = nonces }))
  replied_alike status extras records nonces =
      record {
        originals = refl;
        again = refl;
        records = refl;
        state = record {
          moment = refl;
          next = refl;
          bindings = bound;
          nonces = refl;
          requests = refl;
          dialogs = known;
        };
      }

  -- the same where a REGISTER was taken
  bound_alike : (status : ℕ) (extras : List Field) (records : List Record) (nonces : List Nonce) (left right : List Binding) → SameBindings a.now left right
      → SameEffect (replied server a m status extras records (record one { nonces = nonces; bindings = left }))
      (replied server a m status extras records (record other { nonces = nonces; bindings = right }))
  bound_alike status extras records nonces left right h =
      record {
        originals = refl;
        again = refl;
        records = refl;
        state = record {
          moment = refl;
          next = refl;
          bindings = h;
          nonces = refl;
          requests = refl;
          dialogs = known;
        };
      }

  -- a request that is sent on
  forked_alike : (r : OpenRequest) (records : List Record) (nonces : List Nonce) (left right : List Dialog) → SameDialogs a.now left right
      → SameEffect (forked server a.now r records (record one { nonces = nonces; dialogs = left }))
      (forked server a.now r records (record other { nonces = nonces; dialogs = right }))
  forked_alike r records nonces left right h =
      record {
        originals = refl;
        again = refl;
        records = refl;
        state = record {
          moment = refl;
          next = refl;
          bindings = bound;
          nonces = refl;
          requests = refl;
          dialogs = dialogs_after_same server a.now (settled server a.now [] None (tried a.now (trying server r) r)) left right h;
        };
      }

  -- a request that was let through
  sending_alike : (q : Question) (id : ℕ) (targets : Targets) → SameEffect (sending server a m q id targets one) (sending server a m q id targets other)
  sending_alike q id Targets.NotFound = replied_alike 404 [] _ (used s.nonces a.now q.proof)
  sending_alike q id Targets.Unavailable = replied_alike 480 [] _ (used s.nonces a.now q.proof)
  sending_alike q id (Targets.Bindings targets) = forked_alike (forking a m (branches_from a.now 1 targets)) _ (used s.nonces a.now q.proof) s.dialogs dialogs known
  sending_alike q id (Targets.Hop uri address) = forked_alike (forking a m (branches_from a.now 1 (record { uri = uri; address = Some address } ∷ []))) _
      (used s.nonces a.now q.proof) s.dialogs dialogs known

  -- a REGISTER that was let through
  registering_alike : (q : Question) (id : ℕ) (left right : Registered) → SameRegistered a.now left right
      → SameEffect (registering server a m q id left one) (registering server a m q id right other)
  registering_alike q id (Bound left) (Bound right) h =
      subst (λ (extras : List Field). SameEffect (registering server a m q id (Bound left) one)
      (answered_by_rule server a m q id 200 extras (record other { bindings = right }))) (contact_fields_same a.now q.target left right h)
      (bound_alike 200 (contact_fields a.now q.target left) _ (used s.nonces a.now q.proof) left right h)
  registering_alike q id (Bound left) (Refused status extras) h = absurd h
  registering_alike q id (Refused status extras) right h =
      subst (λ (x : Registered). SameEffect (registering server a m q id (Refused status extras) one) (registering server a m q id x other)) (sym h)
      (replied_alike status extras _ (used s.nonces a.now q.proof))

  -- a copy
  copied_alike : (r : OpenRequest) → SameEffect (copied a m r one) (copied a m r other)
  copied_alike r = record { originals = refl; again = refl; records = refl; state = by_test (bytes_eq (method_of m.start) (codes "ACK")) } where
    by_test : (t : Bool) → SameState (cond t (record one { requests = replaced (acknowledged a.now r) one.requests }) one)
        (cond t (record other { requests = replaced (acknowledged a.now r) other.requests }) other)
    by_test true = record { moment = refl; next = refl; bindings = bound; nonces = refl; requests = refl; dialogs = known }
    by_test false = record { moment = refl; next = refl; bindings = bound; nonces = refl; requests = refl; dialogs = known }

  -- one verdict in both
  effect_alike : (v : Verdict) → SameEffect (effect_of server a m v one) (effect_of server a m v other)
  effect_alike Drop = record {
    originals = refl;
    again = refl;
    records = refl;
    state =
        record { moment = refl; next = refl; bindings = bound; nonces = refl; requests = refl; dialogs = known };
  }
  effect_alike (Respond r b status) =
      record {
        originals = refl;
        again = refl;
        records = refl;
        state = record {
          moment = refl;
          next = refl;
          bindings = bound;
          nonces = refl;
          requests = refl;
          dialogs = dialogs_after_same server a.now (responded server a.now r b status m) s.dialogs dialogs known;
        };
      }
  effect_alike (Copy r) = copied_alike r
  effect_alike (AckOn address id) =
      record {
        originals = refl;
        again = refl;
        records = refl;
        state = record {
          moment = refl;
          next = refl;
          bindings = bound;
          nonces = refl;
          requests = refl;
          dialogs = after_request_same server a.now id m s.dialogs dialogs known;
        };
      }
  effect_alike (Cancel None) = replied_alike 481 [] [] s.nonces
  effect_alike (Cancel (Some r)) =
      record {
        originals = refl;
        again = refl;
        records = refl;
        state = record {
          moment = refl;
          next = refl;
          bindings = bound;
          nonces = refl;
          requests = refl;
          dialogs = dialogs_after_same server a.now (cancelled server a.now r) s.dialogs dialogs known;
        };
      }
  effect_alike (Answer status extras) = replied_alike status extras [] s.nonces
  effect_alike (InDialog address id) = forked_alike (forking a m (dialog_branch server a.now m address ∷ [])) [] s.nonces _ _
      (after_request_same server a.now id m s.dialogs dialogs known)
  effect_alike (Challenge q) = replied_alike _ _ _ (issued (used s.nonces a.now q.proof) a.word a.now)
  effect_alike (Deny q id) = replied_alike 403 _ _ (used s.nonces a.now q.proof)
  effect_alike (Send q id targets) = sending_alike q id targets
  effect_alike (Register q id (Bound after)) = registering_alike q id (Bound after) (Bound after) (λ aor moment later. refl)
  effect_alike (Register q id (Refused status extras)) = registering_alike q id (Refused status extras) (Refused status extras) refl

  -- verdicts that are the same
  verdict_alike : (v w : Verdict) → SameVerdict a.now v w → SameEffect (effect_of server a m v one) (effect_of server a m w other)
  verdict_alike _ _ (Alike v) = effect_alike v
  verdict_alike _ _ (AlikeRegister q id left right h) = registering_alike q id left right h

-- ---- a datagram

said_alike : (server : Server) (a : Arrival) (s : ProxyState) (rows : List Binding) (dialogs : List Dialog) → SameBindings a.now s.bindings rows
    → SameDialogs a.now s.dialogs dialogs
    → (left right : Option (Message × Verdict)) → SameSaid a.now left right
    → SameEffect (option_map_or (λ x. effect_of server a x.0 x.1 (counted a s)) left (nothing (counted a s)))
    (option_map_or (λ x. effect_of server a x.0 x.1 (counted a (with_others s rows dialogs))) right (nothing (counted a (with_others s rows dialogs))))
said_alike server a s rows dialogs bound known None None h =
    record {
      originals = refl;
      again = refl;
      records = refl;
      state = record {
        moment = refl;
        next = refl;
        bindings = bound;
        nonces = refl;
        requests = refl;
        dialogs = known;
      };
    }
said_alike server a s rows dialogs bound known None (Some y) h = absurd (cc)
said_alike server a s rows dialogs bound known (Some x) None h = absurd h
said_alike server a s rows dialogs bound known (Some x) (Some y) h =
    subst (λ (m : Message). SameEffect (effect_of server a x.0 x.1 (counted a s)) (effect_of server a m y.1 (counted a (with_others s rows dialogs)))) h.0
    (verdict_alike server a x.0 s rows dialogs bound known x.1 y.1 h.1)

-- a datagram that comes at the moment of states that are the same, or later, does the same
pub effects_alike : (server : Server) (left right : ProxyState) (a : Arrival) (bytes : List ℕ) → SameState left right → left.moment ≤ a.now
    → SameEffect (datagram_effect server left a bytes) (datagram_effect server right a bytes)
effects_alike server left right a bytes h later =
    let said = verdicts_alike server left right a bytes h later in
    let is : right ≡ with_others left right.bindings right.dialogs = others_alone left right h in
    subst (λ (state : ProxyState). SameEffect (datagram_effect server left a bytes) (option_map_or (λ x. effect_of server a x.0 x.1 (counted a state))
    (verdict_of server right a bytes) (nothing (counted a state)))) (sym is)
    (said_alike server a left right.bindings right.dialogs (same_later left.moment a.now left.bindings right.bindings later h.bindings)
    (dialogs_later left.moment a.now left.dialogs right.dialogs later h.dialogs)
    (verdict_of server left a bytes) (verdict_of server right a bytes) said)
