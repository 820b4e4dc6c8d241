-- The verdict on a datagram doesn't depend on nonces that no longer live, nor on which INVITE began a dialog that lasts.
use Rattle.std.proofs.Common.{◌≡◌, ◌∙◌, ℕ, Bool, cond, List, [], find, refl, ap, ap₂, codes, Option, Some, None, is_some}
use Rattle.std.specs.Prelude.{◌&&◌}
use Rattle.std.specs.Result.{result_ok}
use Rattle.std.specs.Str.{bytes_eq}
use Rattle.sip_uri.specs.declared.addr.Addr.{Addr}
use Rattle.sip_message_form.specs.declared.message.Start.{Start}
use Rattle.sip_message_form.specs.declared.message.Start.TheVariants.{Request, Status}
use Rattle.sip_message_form.specs.declared.message.Message.{Message}
use Rattle.sip_message.specs.Reading.{reading_of}
use Rattle.sip_transaction_table.specs.declared.key.TransactionKey.{TransactionKey}
use Rattle.sip_transaction_table.specs.Key.{key_of}
use Rattle.sip_header.specs.declared.core_fields.CoreFields.{CoreFields}
use Rattle.sip_header.specs.CoreFields.{core_of}
use Rattle.sip_digest.specs.declared.nonces.Nonce.{Nonce}
use Rattle.sip_policy.specs.declared.decision.Decision.{Decision}
use Rattle.sip_policy.specs.Operation.{operation_of}
use Rattle.sip_policy.specs.Window.{minute_of}
use Rattle.sip_validate.specs.Refusal.{refusal_of}
use Rattle.sip_dialog.specs.declared.dialog.DialogId.{DialogId}
use Rattle.sip_dialog.specs.declared.dialog.Dialog.{Dialog}
use Rattle.sip_auth.specs.Proof.{Proof}
use Rattle.model_steps.specs.state.declared.server.Server.{Server}
use Rattle.model_steps.specs.state.declared.open_request.OpenRequest.{OpenRequest}
use Rattle.model_steps.specs.state.declared.proxy_state.ProxyState.{ProxyState}
use Rattle.model_steps.specs.state.State.{has_key}
use Rattle.model_steps.specs.state.Dialogs.{dialog_of}
use Rattle.model_steps.specs.state.Arrival.{Arrival}
use Rattle.model_steps.specs.context_model.Branches.{is_accepted}
use Rattle.model_steps.specs.verdict_model.declared.question.Question.{Question}
use Rattle.model_steps.specs.verdict_model.Verdict.{Verdict, Drop, Copy, AckOn, Answer, InDialog, next_address, within_at, within, ack_verdict, is_full}
use Rattle.model_steps.specs.verdict_model.Verdict.{cancel_verdict, has_contact, target_of, question_of, answer_of, decided, policy_verdict, is_outside, core_verdict}
use Rattle.model_steps.specs.verdict_model.Verdict.{checked_verdict, new_verdict, by_open, by_key, by_start, message_verdict, message_in, verdict_in, verdict_of}
use Rattle.sip_model.specs.Nonces.{SameNonces}
use Rattle.sip_model.specs.Known.{SameKnown}
use Rattle.sip_model.proofs.SameKnown.{InDialogSame, in_known}
use Rattle.sip_model.proofs.Proving.{proof_same}

-- a state in which other nonces and dialogs are known
abbrev pub with_both : ProxyState → List Nonce → List Dialog → ProxyState
with_both s nonces dialogs = record s { nonces = nonces; dialogs = dialogs }

-- a question by what was proven
abbrev question_by : Server → ℕ → Message → List ℕ → CoreFields → Proof → Question
question_by server now m method core proof = record {
  proof = proof;
  operation = operation_of method (has_contact m.fields);
  target = target_of server m method core;
  minute = minute_of now server.config.offset;
}

module _ (asked : InDialogSame) (server : Server) (s : ProxyState) (nonces : List Nonce) (dialogs : List Dialog) (now : ℕ)
    (alike : SameNonces now s.nonces nonces) (known : SameKnown now s.dialogs dialogs) where
  abbrev other : ProxyState
  other = with_both s nonces dialogs

  -- a request that names a dialog
  within_same : (m : Message) (on : Addr → DialogId → Verdict) (none : Verdict) → within server s now m on none ≡ within server other now m on none
  within_same m on none = by_names (dialog_of m) (next_address server m) where
    by_names : (id : Option DialogId) (address : Option Addr) → within_at s now on none id address ≡ within_at other now on none id address
    by_names None address = refl
    by_names (Some id) None = refl
    by_names (Some id) (Some address) = ap (λ (t : Bool). cond t (on address id) none) (in_known asked now s.dialogs dialogs id address known)

  -- an ACK
  ack_same : (m : Message) (short : Bool) → ack_verdict server s now m short ≡ ack_verdict server other now m short
  ack_same m short = ap (λ (v : Verdict). cond (is_some (refusal_of server.config.own m short)) Drop v) (within_same m AckOn Drop)

  -- what policy is asked, and what it says
  asked_same : (m : Message) (method : List ℕ) (core : CoreFields) → question_of server s.nonces now m method core ≡ question_of server nonces now m method core
  asked_same m method core =
      ap (question_by server now m method core) (proof_same now s.nonces nonces alike server.config.realm server.config.users m)

  decided_same : (m : Message) (method : List ℕ) (core : CoreFields) (q : Question) (d : Decision)
      → decided server s now m method core q d ≡ decided server other now m method core q d
  decided_same m method core q Decision.Challenge = refl
  decided_same m method core q (Decision.Deny id) = refl
  decided_same m method core q (Decision.Allow id) = refl
  decided_same m method core q (Decision.Via id hop) = refl

  policy_same : (m : Message) (method : List ℕ) (core : CoreFields) → policy_verdict server s now m method core ≡ policy_verdict server other now m method core
  policy_same m method core =
      let q : Question = question_of server s.nonces now m method core in
      decided_same m method core q (answer_of server q)
      ∙ ap (λ (x : Question). decided server other now m method core x (answer_of server x)) (asked_same m method core)

  core_same : (m : Message) (method : List ℕ) (o : Option CoreFields) → core_verdict server s now m method o ≡ core_verdict server other now m method o
  core_same m method None = refl
  core_same m method (Some core) =
      ap₂ (λ (v w : Verdict). cond (is_outside method core) v w) (policy_same m method core) (within_same m InDialog (Answer 481 []))

  -- one that the checks may refuse
  checked_same : (m : Message) (method : List ℕ) (o : Option (ℕ × List ℕ)) → checked_verdict server s now m method o ≡ checked_verdict server other now m method o
  checked_same m method (Some refusal) = refl
  checked_same m method None = ap (λ (v : Verdict). cond (is_full s) (Answer 503 []) v) (core_same m method (result_ok (core_of m)))

module _ (asked : InDialogSame) (server : Server) (s : ProxyState) (nonces : List Nonce) (dialogs : List Dialog) (a : Arrival)
    (alike : SameNonces a.now s.nonces nonces) (known : SameKnown a.now s.dialogs dialogs) where
  abbrev another : ProxyState
  another = with_both s nonces dialogs

  -- a message
  message_same : (m : Message) (short : Bool) → message_verdict server s a m short ≡ message_verdict server another a m short
  message_same m short = by_kind m.start where
    ack : ack_verdict server s a.now m short ≡ ack_verdict server another a.now m short
    ack = ack_same asked server s nonces dialogs a.now alike known m short

    new_same : (method : List ℕ) (key : TransactionKey) → new_verdict server s a m short method key ≡ new_verdict server another a m short method key
    new_same method key =
        ap₂ (λ (v w : Verdict). cond (bytes_eq method (codes "ACK")) v (cond (bytes_eq method (codes "CANCEL")) (cancel_verdict server s a m short key) w))
        ack (checked_same asked server s nonces dialogs a.now alike known m method (refusal_of server.config.own m short))

    by_found : (method : List ℕ) (key : TransactionKey) (o : Option OpenRequest) → by_open server s a m short method key o ≡ by_open server another a m short method key o
    by_found method key None = new_same method key
    by_found method key (Some r) = ap (λ (v : Verdict). cond (bytes_eq method (codes "ACK") && is_accepted r) v (Copy r)) ack

    by_name : (method : List ℕ) (o : Option TransactionKey) → by_key server s a m short method o ≡ by_key server another a m short method o
    by_name method None = refl
    by_name method (Some key) = by_found method key (find (has_key key) s.requests)

    by_kind : (start : Start) → by_start server s a m short start ≡ by_start server another a m short start
    by_kind (Status code reason) = refl
    by_kind (Request method uri version) = by_name method (key_of m)

  -- what a datagram says, with the verdict on that
  pub verdicts_same : (bytes : List ℕ) → verdict_of server s a bytes ≡ verdict_of server (with_both s nonces dialogs) a bytes
  verdicts_same bytes = by_said (message_in (reading_of bytes)) where
    by_said : (o : Option (Message × Bool)) → verdict_in server s a o ≡ verdict_in server another a o
    by_said None = refl
    by_said (Some x) = ap (λ (v : Verdict). Some (x.0, v)) (message_same x.0 x.1)
