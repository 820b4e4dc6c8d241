-- What is asked of a state is answered the same by each that is the same ahead.
use Rattle.std.proofs.Common.{◌≡◌, ◌∙◌, ℕ, List, filter, find, ap, arith}
use Rattle.sip_digest.specs.Credential.{Credential}
use Rattle.sip_digest.specs.Nonces.{is_live, worth_of}
use Rattle.sip_dialog.specs.declared.dialog.DialogId.{DialogId}
use Rattle.sip_dialog.specs.Dialogs.{is_in_dialog}
use Rattle.sip_location.specs.Binding.{live}
use Rattle.sip_transaction_table.specs.declared.key.TransactionKey.{TransactionKey}
use Rattle.sip_uri.specs.declared.addr.Addr.{Addr}
use Rattle.sip_uri.specs.declared.aor.Aor.{Aor}
use Rattle.model_steps.specs.state.declared.proxy_state.ProxyState.{ProxyState}
use Rattle.model_steps.specs.state.State.{has_key}
use Rattle.sip_model.specs.SameAhead.{SameAhead}
use Rattle.sip_model.proofs.SameNonces.{live_same, worth_same}
use Rattle.sip_model.proofs.SameKnown.{InDialogSame, in_known}

pub bindings_asked : (left right : ProxyState) (aor : Aor) → SameAhead left right → live aor left.moment left.bindings ≡ live aor right.moment right.bindings
bindings_asked left right aor h = h.bindings aor left.moment (omega arith) ∙ ap (λ (moment : ℕ). live aor moment right.bindings) h.moment

pub nonces_asked : (left right : ProxyState) → SameAhead left right → filter (is_live left.moment) left.nonces ≡ filter (is_live right.moment) right.nonces
nonces_asked left right h = live_same left.moment left.nonces right.nonces h.nonces ∙ ap (λ (moment : ℕ). filter (is_live moment) right.nonces) h.moment

pub credentials_asked : (left right : ProxyState) (a1 : List ℕ) (c : Credential) → SameAhead left right
    → worth_of left.nonces a1 c left.moment ≡ worth_of right.nonces a1 c right.moment
credentials_asked left right a1 c h =
    worth_same a1 c left.moment left.nonces right.nonces h.nonces ∙ ap (λ (moment : ℕ). worth_of right.nonces a1 c moment) h.moment

pub requests_asked : (left right : ProxyState) (key : TransactionKey) → SameAhead left right → find (has_key key) left.requests ≡ find (has_key key) right.requests
requests_asked left right key h = ap (find (has_key key)) h.requests

pub dialogs_asked : InDialogSame → (left right : ProxyState) (id : DialogId) (address : Addr) → SameAhead left right
    → is_in_dialog left.moment left.dialogs id address ≡ is_in_dialog right.moment right.dialogs id address
dialogs_asked same left right id address h =
    in_known same left.moment left.dialogs right.dialogs id address h.dialogs ∙ ap (λ (moment : ℕ). is_in_dialog moment right.dialogs id address) h.moment
