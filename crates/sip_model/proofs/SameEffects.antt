-- What a datagram does is the same in states that are the same ahead, but for what neither sends nor records later.
use Rattle.std.proofs.Common.{ℕ, Bool, true, false, cond, List, [], ◌∷◌, refl, subst, codes, Option, Some, None, bytes_eq}
use Rattle.std.specs.Option.{option_map_or}
use Rattle.sip_message_fields.specs.declared.field.Field.{Field}
use Rattle.sip_message_form.specs.declared.message.Message.{Message}
use Rattle.sip_location.specs.declared.binding.Binding.{Binding}
use Rattle.sip_targets.specs.declared.targets.Targets.{Targets}
use Rattle.sip_dialog.specs.declared.dialog.Dialog.{Dialog}
use Rattle.sip_digest.specs.declared.nonces.Nonce.{Nonce}
use Rattle.sip_digest.specs.Nonces.{issued}
use Rattle.sip_auth.specs.Proof.{used}
use Rattle.sip_audit.specs.declared.record.Record.{Record}
use Rattle.model_steps.specs.state.declared.server.Server.{Server}
use Rattle.model_steps.specs.state.declared.open_request.OpenRequest.{OpenRequest}
use Rattle.model_steps.specs.state.declared.proxy_state.ProxyState.{ProxyState}
use Rattle.model_steps.specs.state.Arrival.{Arrival}
use Rattle.model_steps.specs.verdict_model.declared.question.Question.{Question}
use Rattle.model_steps.specs.verdict_model.Verdict.{Bound, Refused, Verdict, Drop, Respond, Copy, AckOn, Cancel, Answer, InDialog, Challenge, Deny}
use Rattle.model_steps.specs.verdict_model.Verdict.{Send, Register, verdict_of}
use Rattle.model_steps.specs.context_model.Branches.{responded, cancelled, settled, acknowledged}
use Rattle.model_steps.specs.context_model.Opening.{forking, branches_from, dialog_branch, tried, trying}
use Rattle.model_steps.specs.Effect.{counted, nothing, replaced, replied, sending, forked, copied, method_of, effect_of}
use Rattle.model_steps.specs.Effect.{contact_fields, datagram_effect}
use Rattle.sip_model.specs.Nonces.{SameNonces}
use Rattle.sip_model.specs.Known.{SameKnown}
use Rattle.sip_model.specs.SameAhead.{SameAhead, SendsAlike}
use Rattle.sip_model.proofs.SameNonces.{issued_same, used_same}
use Rattle.sip_model.proofs.SameKnown.{DialogsStay, after_request_kept, dialogs_after_kept}
use Rattle.sip_model.proofs.SameVerdicts.{with_both, verdicts_same}

module _ (laws : DialogsStay) (server : Server) (a : Arrival) (m : Message) (s : ProxyState) (nonces : List Nonce) (dialogs : List Dialog)
    (alike : SameNonces a.now s.nonces nonces) (known : SameKnown a.now s.dialogs dialogs) where
  -- the two states, once the datagram was counted
  abbrev one : ProxyState
  one = counted a s

  abbrev other : ProxyState
  other = counted a (with_both s nonces dialogs)

  -- an answer
  replied_alike : (status : ℕ) (extras : List Field) (records : List Record) (rows : List Binding) (left right : List Nonce) → SameNonces a.now left right
      → SendsAlike (replied server a m status extras records (record one { nonces = left; bindings = rows }))
      (replied server a m status extras records (record other { nonces = right; bindings = rows }))
  replied_alike status extras records rows left right h =
      record {
        originals = refl;
        again = refl;
        records = refl;
        state = record {
          moment = refl;
          next = refl;
          bindings = λ aor moment later. refl;
          nonces = h;
          requests = refl;
          dialogs = known;
        };
      }

  -- a request that is sent on
  forked_alike : (r : OpenRequest) (records : List Record) (left right : List Nonce) (mine others : List Dialog) → SameNonces a.now left right
      → SameKnown a.now mine others
      → SendsAlike (forked server a.now r records (record one { nonces = left; dialogs = mine }))
      (forked server a.now r records (record other { nonces = right; dialogs = others }))
  forked_alike r records left right mine others h k =
      record {
        originals = refl;
        again = refl;
        records = refl;
        state = record {
          moment = refl;
          next = refl;
          bindings = λ aor moment later. refl;
          nonces = h;
          requests = refl;
          dialogs = dialogs_after_kept laws server a.now (settled server a.now [] None (tried a.now (trying server r) r)) mine others k;
        };
      }

  -- the nonces once policy was asked
  asked_alike : (q : Question) → SameNonces a.now (used s.nonces a.now q.proof) (used nonces a.now q.proof)
  asked_alike q = used_same a.now q.proof s.nonces nonces alike

  -- a request that was let through
  sending_alike : (q : Question) (id : ℕ) (targets : Targets) → SendsAlike (sending server a m q id targets one) (sending server a m q id targets other)
  sending_alike q id Targets.NotFound = replied_alike 404 [] _ s.bindings (used s.nonces a.now q.proof) (used nonces a.now q.proof) (asked_alike q)
  sending_alike q id Targets.Unavailable = replied_alike 480 [] _ s.bindings (used s.nonces a.now q.proof) (used nonces a.now q.proof) (asked_alike q)
  sending_alike q id (Targets.Bindings targets) =
      forked_alike (forking a m (branches_from a.now 1 targets)) _ (used s.nonces a.now q.proof) (used nonces a.now q.proof) s.dialogs dialogs (asked_alike q) known
  sending_alike q id (Targets.Hop uri address) =
      forked_alike (forking a m (branches_from a.now 1 (record { uri = uri; address = Some address } ∷ []))) _ (used s.nonces a.now q.proof)
      (used nonces a.now q.proof) s.dialogs dialogs (asked_alike q) known

  -- a copy
  copied_alike : (r : OpenRequest) → SendsAlike (copied a m r one) (copied a m r other)
  copied_alike r = record { originals = refl; again = refl; records = refl; state = by_test (bytes_eq (method_of m.start) (codes "ACK")) } where
    by_test : (t : Bool) → SameAhead (cond t (record one { requests = replaced (acknowledged a.now r) one.requests }) one)
        (cond t (record other { requests = replaced (acknowledged a.now r) other.requests }) other)
    by_test true = record { moment = refl; next = refl; bindings = λ aor moment later. refl; nonces = alike; requests = refl; dialogs = known }
    by_test false = record { moment = refl; next = refl; bindings = λ aor moment later. refl; nonces = alike; requests = refl; dialogs = known }

  -- a verdict
  effect_alike : (v : Verdict) → SendsAlike (effect_of server a m v one) (effect_of server a m v other)
  effect_alike Drop = record {
    originals = refl;
    again = refl;
    records = refl;
    state = record { moment = refl; next = refl; bindings = λ aor moment later. refl; nonces = alike; requests = refl; dialogs = known };
  }
  effect_alike (Respond r b status) =
      record {
        originals = refl;
        again = refl;
        records = refl;
        state = record {
          moment = refl;
          next = refl;
          bindings = λ aor moment later. refl;
          nonces = alike;
          requests = refl;
          dialogs = dialogs_after_kept laws server a.now (responded server a.now r b status m) s.dialogs dialogs known;
        };
      }
  effect_alike (Copy r) = copied_alike r
  effect_alike (AckOn address id) =
      record {
        originals = refl;
        again = refl;
        records = refl;
        state = record {
          moment = refl;
          next = refl;
          bindings = λ aor moment later. refl;
          nonces = alike;
          requests = refl;
          dialogs = after_request_kept laws server a.now id m s.dialogs dialogs known;
        };
      }
  effect_alike (Cancel None) = replied_alike 481 [] [] s.bindings s.nonces nonces alike
  effect_alike (Cancel (Some r)) =
      record {
        originals = refl;
        again = refl;
        records = refl;
        state = record {
          moment = refl;
          next = refl;
          bindings = λ aor moment later. refl;
          nonces = alike;
          requests = refl;
          dialogs = dialogs_after_kept laws server a.now (cancelled server a.now r) s.dialogs dialogs known;
        };
      }
  effect_alike (Answer status extras) = replied_alike status extras [] s.bindings s.nonces nonces alike
  effect_alike (InDialog address id) =
      forked_alike (forking a m (dialog_branch server a.now m address ∷ [])) [] s.nonces nonces _ _ alike
      (after_request_kept laws server a.now id m s.dialogs dialogs known)
  effect_alike (Challenge q) =
      replied_alike _ _ _ s.bindings (issued (used s.nonces a.now q.proof) a.word a.now) (issued (used nonces a.now q.proof) a.word a.now)
      (issued_same a.word a.now (used s.nonces a.now q.proof) (used nonces a.now q.proof) (asked_alike q))
  effect_alike (Deny q id) = replied_alike 403 _ _ s.bindings (used s.nonces a.now q.proof) (used nonces a.now q.proof) (asked_alike q)
  effect_alike (Send q id targets) = sending_alike q id targets
  effect_alike (Register q id (Bound rows)) =
      replied_alike 200 (contact_fields a.now q.target rows) _ rows (used s.nonces a.now q.proof) (used nonces a.now q.proof) (asked_alike q)
  effect_alike (Register q id (Refused status extras)) =
      replied_alike status extras _ s.bindings (used s.nonces a.now q.proof) (used nonces a.now q.proof) (asked_alike q)

-- ---- a datagram

module _ (laws : DialogsStay) (server : Server) (a : Arrival) (s : ProxyState) (nonces : List Nonce) (dialogs : List Dialog)
    (alike : SameNonces a.now s.nonces nonces) (known : SameKnown a.now s.dialogs dialogs) where
  said_alike : (o : Option (Message × Verdict))
      → SendsAlike (option_map_or (λ x. effect_of server a x.0 x.1 (counted a s)) o (nothing (counted a s)))
      (option_map_or (λ x. effect_of server a x.0 x.1 (counted a (with_both s nonces dialogs))) o (nothing (counted a (with_both s nonces dialogs))))
  said_alike None = record {
    originals = refl;
    again = refl;
    records = refl;
    state = record { moment = refl; next = refl; bindings = λ aor moment later. refl; nonces = alike; requests = refl; dialogs = known };
  }
  said_alike (Some x) = effect_alike laws server a x.0 s nonces dialogs alike known x.1

  -- a datagram does the same
  pub effects_alike : (bytes : List ℕ) → SendsAlike (datagram_effect server s a bytes) (datagram_effect server (with_both s nonces dialogs) a bytes)
  effects_alike bytes =
      subst (λ (o : Option (Message × Verdict)). SendsAlike (datagram_effect server s a bytes)
      (option_map_or (λ x. effect_of server a x.0 x.1 (counted a (with_both s nonces dialogs))) o (nothing (counted a (with_both s nonces dialogs)))))
      (verdicts_same laws.asked server s nonces dialogs a alike known bytes) (said_alike (verdict_of server s a bytes))
