-- What dialogs learn keeps lists the same that say the same; sameness of states is an equivalence.
use Rattle.std.proofs.Common.{◌≡◌, ℕ, List, [], ◌∷◌, find, cond, Bool, true, false, sym, ◌∙◌, ap, ap₂, subst, arith, Option, Some, None}
use Rattle.std.specs.Prelude.{codes, count_by, nat_le, ◌&&◌}
use Rattle.std.specs.Option.{option_map_or}
use Rattle.std.specs.Str.{bytes_eq}
use Rattle.sip_uri.specs.declared.aor.Aor.{Aor}
use Rattle.sip_uri.specs.declared.addr.Addr.{Addr}
use Rattle.sip_message_form.specs.declared.message.Message.{Message}
use Rattle.sip_transaction_table.specs.declared.key.TransactionKey.{TransactionKey}
use Rattle.sip_digest.specs.declared.nonces.Nonce.{Nonce}
use Rattle.sip_digest.specs.Credential.{Credential}
use Rattle.sip_digest.specs.Nonces.{worth_of}
use Rattle.sip_location.specs.Binding.{live}
use Rattle.sip_location.specs.Sameness.{SameBindings}
use Rattle.sip_location.proofs.Sameness.{same_self, same_turned, same_joined}
use Rattle.sip_dialog.specs.declared.dialog.Dialog.{Dialog}
use Rattle.sip_dialog.specs.declared.dialog.DialogId.{DialogId}
use Rattle.sip_dialog.specs.Dialogs.{known, taught, told, is_in_dialog}
use Rattle.sip_dialog.specs.Sameness.{SameDialogs}
use Rattle.sip_dialog.proofs.Sameness.{edited_same, learnt_same, without_same, after_invite_same, in_dialog_same, dialogs_turned}
use Rattle.sip_state.specs.declared.server.Server.{Server}
use Rattle.sip_state.specs.declared.open_request.OpenRequest.{OpenRequest}
use Rattle.sip_state.specs.declared.open_request.Upward.{Upward}
use Rattle.sip_state.specs.declared.proxy_state.ProxyState.{ProxyState}
use Rattle.sip_state.specs.State.{is_invite, has_left, has_key, is_success}
use Rattle.sip_state.specs.SameState.{SameState}
use Rattle.sip_state.specs.Dialogs.{dialog_of, addresses_of, after_request, invite_answer, after_invite_answer, answered_dialog, after_answer_of, after_answer}
use Rattle.sip_state.specs.Dialogs.{after_answers, after_leaving}

-- ---- dialogs

either_same : (now : ℕ) (t : Bool) (one other one_right other_right : List Dialog) → SameDialogs now one one_right → SameDialogs now other other_right
    → SameDialogs now (cond t one other) (cond t one_right other_right)
either_same now true one other one_right other_right h k = h
either_same now false one other one_right other_right h k = k

-- what an answer that goes to the caller makes of them
after_answer_same : (server : Server) (now : ℕ) (r : OpenRequest) (u : Upward) (left right : List Dialog) → SameDialogs now left right
    → SameDialogs now (after_answer server now r u left) (after_answer server now r u right)
after_answer_same server now r u left right h = either_same now (nat_le u.status 100) _ _ _ _ h (by_dialog (dialog_of r.request.message)) where
  taught_same : (id : DialogId) → SameDialogs now (taught now id (addresses_of server u.message) left) (taught now id (addresses_of server u.message) right)
  taught_same id = edited_same now id (told (addresses_of server u.message)) left right h

  by_answered : (o : Option DialogId) → SameDialogs now (option_map_or (λ id. after_invite_answer server now r u id left) o left)
      (option_map_or (λ id. after_invite_answer server now r u id right) o right)
  by_answered None = h
  by_answered (Some id) = either_same now (nat_le u.status 299) _ _ _ _ (learnt_same now (invite_answer server r u id) left right h) (taught_same id)

  by_dialog : (o : Option DialogId) → SameDialogs now (after_answer_of server now r u o left) (after_answer_of server now r u o right)
  by_dialog (Some id) = either_same now (bytes_eq r.key.method (codes "BYE") && is_success u.status) _ _ _ _ (without_same now id left right h) (taught_same id)
  by_dialog None = either_same now (is_invite r) _ _ _ _ (by_answered (answered_dialog r u.message)) h

pub after_answers_same : (server : Server) (now : ℕ) (r : OpenRequest) (us : List Upward) (left right : List Dialog) → SameDialogs now left right
    → SameDialogs now (after_answers server now r us left) (after_answers server now r us right)
after_answers_same server now r [] left right h = h
after_answers_same server now r (u ∷ us) left right h = after_answers_same server now r us _ _ (after_answer_same server now r u left right h)

-- what a request that is sent on makes of them
pub after_request_same : (server : Server) (now : ℕ) (id : DialogId) (m : Message) (left right : List Dialog) → SameDialogs now left right
    → SameDialogs now (after_request server now id m left) (after_request server now id m right)
after_request_same server now id m left right h = edited_same now id (λ d. record (told (addresses_of server m) d) { since = now }) left right h

-- and that an INVITE stays open no longer
pub after_leaving_same : (now : ℕ) (r : OpenRequest) (left right : List Dialog) → SameDialogs now left right
    → SameDialogs now (after_leaving now r left) (after_leaving now r right)
after_leaving_same now r left right h = either_same now (is_invite r && has_left r) _ _ _ _ (after_invite_same now r.number left right h) h

-- ---- what is asked of a state

pub bindings_alike : (left right : ProxyState) (aor : Aor) → SameState left right → live aor left.moment left.bindings ≡ live aor right.moment right.bindings
bindings_alike left right aor h = h.bindings aor left.moment (omega arith) ∙ ap (λ (moment : ℕ). live aor moment right.bindings) h.moment

pub credentials_alike : (left right : ProxyState) (a1 : List ℕ) (c : Credential) → SameState left right
    → worth_of left.nonces a1 c left.moment ≡ worth_of right.nonces a1 c right.moment
credentials_alike left right a1 c h = ap₂ (λ (nonces : List Nonce) (moment : ℕ). worth_of nonces a1 c moment) h.nonces h.moment

pub requests_alike : (left right : ProxyState) (key : TransactionKey) → SameState left right → find (has_key key) left.requests ≡ find (has_key key) right.requests
requests_alike left right key h = ap (find (has_key key)) h.requests

pub in_dialog_alike : (left right : ProxyState) (id : DialogId) (address : Addr) → SameState left right
    → is_in_dialog left.moment left.dialogs id address ≡ is_in_dialog right.moment right.dialogs id address
in_dialog_alike left right id address h =
    in_dialog_same left.moment left.dialogs right.dialogs id address h.dialogs ∙ ap (λ (moment : ℕ). is_in_dialog moment right.dialogs id address) h.moment

-- ---- states

-- each state is the same as itself
pub state_self : (left right : ProxyState) → left ≡ right → SameState left right
state_self left right e =
    record {
      moment = ap (λ (s : ProxyState). s.moment) e;
      next = ap (λ (s : ProxyState). s.next) e;
      bindings = same_self left.moment _ _ (ap (λ (s : ProxyState). s.bindings) e);
      nonces = ap (λ (s : ProxyState). s.nonces) e;
      requests = ap (λ (s : ProxyState). s.requests) e;
      dialogs = λ p. ap (λ (s : ProxyState). count_by p (known left.moment s.dialogs)) e;
    }

-- either way round
pub state_turned : (left right : ProxyState) → SameState left right → SameState right left
state_turned left right h =
    record {
      moment = sym h.moment;
      next = sym h.next;
      bindings = subst (λ (moment : ℕ). SameBindings moment right.bindings left.bindings) h.moment (same_turned left.moment left.bindings right.bindings h.bindings);
      nonces = sym h.nonces;
      requests = sym h.requests;
      dialogs = subst (λ (moment : ℕ). SameDialogs moment right.dialogs left.dialogs) h.moment (dialogs_turned left.moment left.dialogs right.dialogs h.dialogs);
    }

-- and what is the same as a third through a second is
pub state_joined : (left middle right : ProxyState) → SameState left middle → SameState middle right → SameState left right
state_joined left middle right h k =
    record {
      moment = h.moment ∙ k.moment;
      next = h.next ∙ k.next;
      bindings =
          same_joined left.moment left.bindings middle.bindings right.bindings h.bindings
          (subst (λ (moment : ℕ). SameBindings moment middle.bindings right.bindings) (sym h.moment) k.bindings);
      nonces = h.nonces ∙ k.nonces;
      requests = h.requests ∙ k.requests;
      dialogs = λ p. h.dialogs p ∙ subst (λ (moment : ℕ). SameDialogs moment middle.dialogs right.dialogs) (sym h.moment) k.dialogs p;
    }
