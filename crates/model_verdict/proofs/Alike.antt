-- The verdict on a datagram is the same in states that are the same.
use Rattle.std.proofs.Common.{◌≡◌, ◌∙◌, ℕ, ◌≤◌, Bool, true, false, cond, List, [], find, refl, sym, ap, subst, codes, Option, Some, None, is_some}
use Rattle.std.specs.Prelude.{◌&&◌}
use Rattle.std.specs.Result.{result_ok}
use Rattle.std.specs.Str.{bytes_eq}
use Rattle.sip_uri.specs.declared.addr.Addr.{Addr}
use Rattle.sip_message_form.specs.declared.message.Start.{Start}
use Rattle.sip_message_form.specs.declared.message.Start.TheVariants.{Request, Status}
use Rattle.sip_message_form.specs.declared.message.Message.{Message}
use Rattle.sip_message.specs.Reading.{reading_of}
use Rattle.sip_transaction_table.specs.declared.key.TransactionKey.{TransactionKey}
use Rattle.sip_header.specs.declared.core_fields.CoreFields.{CoreFields}
use Rattle.sip_transaction_table.specs.Key.{key_of}
use Rattle.sip_header.specs.CoreFields.{core_of}
use Rattle.sip_digest.specs.declared.nonces.Nonce.{Nonce}
use Rattle.sip_policy.specs.declared.decision.Decision.{Decision}
use Rattle.sip_location.specs.declared.binding.Binding.{Binding}
use Rattle.sip_location.specs.Sameness.{SameBindings}
use Rattle.sip_location.proofs.Sameness.{same_later}
use Rattle.sip_validate.specs.Refusal.{refusal_of}
use Rattle.sip_dialog.specs.declared.dialog.DialogId.{DialogId}
use Rattle.sip_dialog.specs.declared.dialog.Dialog.{Dialog}
use Rattle.sip_dialog.specs.Sameness.{SameDialogs}
use Rattle.sip_dialog.proofs.Sameness.{in_dialog_same, dialogs_later}
use Rattle.model_context.specs.state.declared.server.Server.{Server}
use Rattle.model_context.specs.state.declared.open_request.OpenRequest.{OpenRequest}
use Rattle.model_context.specs.state.declared.proxy_state.ProxyState.{ProxyState}
use Rattle.model_context.specs.state.State.{has_key}
use Rattle.model_context.specs.state.SameState.{SameState}
use Rattle.model_context.specs.state.Dialogs.{dialog_of}
use Rattle.model_context.specs.Branches.{is_accepted}
use Rattle.model_context.specs.state.Arrival.{Arrival}
use Rattle.model_verdict.specs.declared.question.Question.{Question}
use Rattle.model_verdict.specs.Verdict.{Verdict, Drop, Copy, AckOn, Answer, InDialog, Challenge, Deny, Send, next_address, within_at, within, ack_verdict, is_full}
use Rattle.model_verdict.specs.Verdict.{cancel_verdict, is_register, question_of, answer_of, registration_by, let_through, decided, is_outside, core_verdict}
use Rattle.model_verdict.specs.Verdict.{refusal_fields, checked_verdict, new_verdict, by_open, by_key, by_start, response_verdict, responding, message_verdict}
use Rattle.model_verdict.specs.Verdict.{message_in, verdict_in, verdict_of}
use Rattle.model_verdict.specs.Sameness.{SameVerdict, Alike, AlikeRegister, SameSaid}
use Rattle.model_verdict.proofs.Sameness.{request_targets_same, registration_same}

-- ---- states

-- a state in which other bindings and dialogs are known
abbrev pub with_others : ProxyState → List Binding → List Dialog → ProxyState
with_others state rows dialogs = record state { bindings = rows; dialogs = dialogs }

-- a state that is the same is such a one
pub others_alone : (left right : ProxyState) → SameState left right → right ≡ with_others left right.bindings right.dialogs
others_alone left right h =
    ap (λ (v : ℕ). record right { moment = v }) (sym h.moment)
    ∙ ap (λ (v : ℕ). record right { moment = left.moment; next = v }) (sym h.next)
    ∙ ap (λ (v : List Nonce). record right { moment = left.moment; next = left.next; nonces = v }) (sym h.nonces)
    ∙ ap (λ (v : List OpenRequest). record right { moment = left.moment; next = left.next; nonces = left.nonces; requests = v }) (sym h.requests)

-- ---- verdicts

-- equal verdicts are the same
alike : (now : ℕ) (left right : Verdict) → left ≡ right → SameVerdict now left right
alike now left right e = subst (λ (v : Verdict). SameVerdict now left v) e (Alike left)

-- of two verdicts each, whichever
either_alike : (now : ℕ) (t : Bool) (one other one_right other_right : Verdict) → SameVerdict now one one_right → SameVerdict now other other_right
    → SameVerdict now (cond t one other) (cond t one_right other_right)
either_alike now true one other one_right other_right h k = h
either_alike now false one other one_right other_right h k = k

module _ (server : Server) (state : ProxyState) (rows : List Binding) (dialogs : List Dialog) (now : ℕ) (bound : SameBindings now state.bindings rows)
    (known : SameDialogs now state.dialogs dialogs) where
  abbrev other : ProxyState
  other = with_others state rows dialogs

  -- a request that names a dialog
  within_alike : (m : Message) (on : Addr → DialogId → Verdict) (none : Verdict) → within server state now m on none ≡ within server other now m on none
  within_alike m on none = by_names (dialog_of m) (next_address server m) where
    by_names : (id : Option DialogId) (address : Option Addr) → within_at state now on none id address ≡ within_at other now on none id address
    by_names None address = refl
    by_names (Some id) None = refl
    by_names (Some id) (Some address) = ap (λ (t : Bool). cond t (on address id) none) (in_dialog_same now state.dialogs dialogs id address known)

  -- an ACK
  ack_alike : (m : Message) (short : Bool) → ack_verdict server state now m short ≡ ack_verdict server other now m short
  ack_alike m short = ap (λ (v : Verdict). cond (is_some (refusal_of server.config.own m short)) Drop v) (within_alike m AckOn Drop)

  -- a request that was let through
  let_alike : (m : Message) (method : List ℕ) (core : CoreFields) (q : Question) (id : ℕ) (d : Decision)
      → SameVerdict now (let_through server state now m method core q id d) (let_through server other now m method core q id d)
  let_alike m method core q id d =
      either_alike now (is_register method) _ _ _ _
      (AlikeRegister q id (registration_by server state.bindings now m core) (registration_by server rows now m core)
      (registration_same server state.bindings rows now m core bound))
      (alike now _ _ (ap (Send q id) (request_targets_same server state.bindings rows now m q d bound)))

  -- one that policy decided about
  decided_alike : (m : Message) (method : List ℕ) (core : CoreFields) (q : Question) (d : Decision)
      → SameVerdict now (decided server state now m method core q d) (decided server other now m method core q d)
  decided_alike m method core q Decision.Challenge = Alike (Challenge q)
  decided_alike m method core q (Decision.Deny id) = Alike (Deny q id)
  decided_alike m method core q (Decision.Allow id) = let_alike m method core q id (Decision.Allow id)
  decided_alike m method core q (Decision.Via id hop) = let_alike m method core q id (Decision.Via id hop)

  -- one whose core fields may be readable
  core_alike : (m : Message) (method : List ℕ) (o : Option CoreFields) → SameVerdict now (core_verdict server state now m method o)
      (core_verdict server other now m method o)
  core_alike m method None = Alike Drop
  core_alike m method (Some core) =
      let q : Question = question_of server state.nonces now m method core in
      either_alike now (is_outside method core) _ _ _ _ (decided_alike m method core q (answer_of server q)) (alike now _ _ (within_alike m InDialog (Answer 481 [])))

  -- one that the checks may refuse
  checked_alike : (m : Message) (method : List ℕ) (o : Option (ℕ × List ℕ)) → SameVerdict now (checked_verdict server state now m method o)
      (checked_verdict server other now m method o)
  checked_alike m method (Some refusal) = Alike (Answer refusal.0 (refusal_fields refusal))
  checked_alike m method None = either_alike now (is_full state) _ _ _ _ (Alike (Answer 503 [])) (core_alike m method (result_ok (core_of m)))

-- a message
message_alike : (server : Server) (state : ProxyState) (rows : List Binding) (dialogs : List Dialog) (a : Arrival) (m : Message) (short : Bool)
    → SameBindings a.now state.bindings rows → SameDialogs a.now state.dialogs dialogs
    → SameVerdict a.now (message_verdict server state a m short) (message_verdict server (with_others state rows dialogs) a m short)
message_alike server state rows dialogs a m short bound known = by_kind m.start where
  other : ProxyState
  other = with_others state rows dialogs

  ack : SameVerdict a.now (ack_verdict server state a.now m short) (ack_verdict server other a.now m short)
  ack = alike a.now _ _ (ack_alike server state rows dialogs a.now bound known m short)

  new_alike : (method : List ℕ) (key : TransactionKey) → SameVerdict a.now (new_verdict server state a m short method key) (new_verdict server other a m short method key)
  new_alike method key =
      either_alike a.now (bytes_eq method (codes "ACK")) _ _ _ _ ack
      (either_alike a.now (bytes_eq method (codes "CANCEL")) _ _ _ _ (Alike (cancel_verdict server state a m short key))
      (checked_alike server state rows dialogs a.now bound known m method (refusal_of server.config.own m short)))

  by_found : (method : List ℕ) (key : TransactionKey) (o : Option OpenRequest) → SameVerdict a.now (by_open server state a m short method key o)
      (by_open server other a m short method key o)
  by_found method key None = new_alike method key
  by_found method key (Some r) = either_alike a.now (bytes_eq method (codes "ACK") && is_accepted r) _ _ _ _ ack (Alike (Copy r))

  by_name : (method : List ℕ) (o : Option TransactionKey) → SameVerdict a.now (by_key server state a m short method o) (by_key server other a m short method o)
  by_name method None = Alike Drop
  by_name method (Some key) = by_found method key (find (has_key key) state.requests)

  by_kind : (start : Start) → SameVerdict a.now (by_start server state a m short start) (by_start server other a m short start)
  by_kind (Status code reason) = Alike (cond short Drop (response_verdict m.fields code (responding server state.requests m.fields)))
  by_kind (Request method uri version) = by_name method (key_of m)

-- ---- a datagram

said_alike : (server : Server) (state : ProxyState) (rows : List Binding) (dialogs : List Dialog) (a : Arrival) (o : Option (Message × Bool))
    → SameBindings a.now state.bindings rows → SameDialogs a.now state.dialogs dialogs
    → SameSaid a.now (verdict_in server state a o) (verdict_in server (with_others state rows dialogs) a o)
said_alike server state rows dialogs a None bound known = refl
said_alike server state rows dialogs a (Some x) bound known = (refl, message_alike server state rows dialogs a x.0 x.1 bound known)

-- states that are the same give the same verdict on what comes at their moment, or later
pub verdicts_alike : (server : Server) (left right : ProxyState) (a : Arrival) (bytes : List ℕ) → SameState left right → left.moment ≤ a.now
    → SameSaid a.now (verdict_of server left a bytes) (verdict_of server right a bytes)
verdicts_alike server left right a bytes h later =
    subst (λ (state : ProxyState). SameSaid a.now (verdict_of server left a bytes) (verdict_of server state a bytes)) (sym (others_alone left right h))
    (said_alike server left right.bindings right.dialogs a (message_in (reading_of bytes)) (same_later left.moment a.now left.bindings right.bindings later h.bindings)
    (dialogs_later left.moment a.now left.dialogs right.dialogs later h.dialogs))
