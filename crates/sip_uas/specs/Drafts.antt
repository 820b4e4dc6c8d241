-- What a draft of a step does: what is sent and recorded, and what becomes of the state.
use Rattle.std.specs.Prelude.{◌≡◌, ℕ, Bool, List, [], Option, Some, None, Ok}
use Rattle.sip_forwarding.specs.declared.arrival.Arrival.{Arrival}
use Rattle.sip_transaction_table.specs.declared.key.TransactionKey.{TransactionKey}
use Rattle.sip_forwarding.specs.steps_model.Effect.{Effect}
use Rattle.sip_digest.specs.declared.nonces.Nonce.{Nonce}
use Rattle.sip_dialog_updates.specs.state.declared.open_request.OpenRequest.{OpenRequest}
use Rattle.sip_dialog_updates.specs.state.declared.proxy_state.ProxyState.{ProxyState}
use Rattle.sip_dialog_updates.specs.state.State.{with_one_more}
use Rattle.sip_verdict.specs.verdict_model.Verdict.{is_full}
use Rattle.sip_location.specs.declared.binding.Binding.{Binding}
use Rattle.sip_location.specs.declared.registration.Registration.{Registration}
use Rattle.sip_location.specs.Locations.{Planned, IsPlan}
use Rattle.sip_location.specs.Registration.{registered}
use Rattle.sip_dialog_updates.specs.DialogUpdates.{after_updates}
use Rattle.model_transactions.specs.Fits.{Fits}
use Rattle.model_transactions.specs.Matching.{AreBranched}
use Rattle.model_transactions.specs.Near.{IsWithin}
use Rattle.sip_uas.specs.declared.answer_draft.AnswerDraft.{AnswerDraft}

-- the open requests with the one that a draft opens, which stands behind all others
abbrev pub with_opened : Option OpenRequest → List OpenRequest → List OpenRequest
with_opened None requests = requests
with_opened (Some r) requests = with_one_more r requests

-- ---- bindings

-- Bindings are those after the registration that a plan is for, which isn't refused.
pub record AreAfter (now : ℕ) (plan : Planned) (old new : List Binding) : Type 0 where
  pub registration : Registration
  pub is_plan : IsPlan old registration now plan
  pub registered_are : registered old registration now ≡ Ok new

-- Bindings are those after a plan, or the same where there is none.
abbrev pub AreBound : ℕ → Option Planned → List Binding → List Binding → Type 0
AreBound now None old new = new ≡ old
AreBound now (Some plan) old new = AreAfter now plan old new

-- ---- the whole

-- A draft of a step at a moment, with these nonces after it and this plan, says what an effect in a state is.
pub record Does (now : ℕ) (draft : AnswerDraft) (nonces : List Nonce) (plan : Option Planned) (state : ProxyState) (effect : Effect) : Type 0 where
  pub originals_are : effect.originals ≡ draft.packets
  pub again_are : effect.again ≡ []
  pub records_are : effect.records ≡ draft.records
  pub moment_is : effect.state.moment ≡ state.moment
  pub next_is : effect.state.next ≡ state.next
  pub requests_are : effect.state.requests ≡ with_opened draft.opened state.requests
  pub dialogs_are : effect.state.dialogs ≡ after_updates now draft.updates state.dialogs
  pub nonces_are : effect.state.nonces ≡ nonces
  pub bindings_are : AreBound now plan state.bindings effect.state.bindings

-- So it does in each state with 1,024 requests open or fewer, with what becomes of the nonces.
abbrev pub Drafts : Bool → ℕ → AnswerDraft → (List Nonce → List Nonce) → Option Planned → (ProxyState → Effect) → Type 0
Drafts full now draft nonces plan effect = (state : ProxyState) → is_full state ≡ full
    → Does now draft (nonces state.nonces) plan state (effect state)

-- ---- what is opened

-- A request that came in a datagram, with a key, can be opened: its parts fit their transactions, its moments are near that of the datagram,
-- and its branches are targets with numbers of their own and CANCELs behind them.
pub record IsOpenable (a : Arrival) (key : TransactionKey) (r : OpenRequest) : Type 0 where
  pub fits : Fits r
  pub within : IsWithin a.now r
  pub branched : AreBranched r.branches
  pub number_is : r.number ≡ a.number
  pub key_is : r.key ≡ key
