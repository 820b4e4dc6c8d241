-- What a proxy knows while it runs (RFC 3261 16).
use Rattle.std.specs.Prelude.{ℕ, ◌≡◌, ◌≤◌, ◌<◌, ◌+◌, ◌^◌, List}
use Rattle.std.specs.List.{All}
use Rattle.sip_base.specs.KeyedHasher.{fed_first}
use Rattle.sip_base.specs.declared.word_hasher.WordHasher.{WordHasher}
use Rattle.sip_timers.specs.declared.timer.Timer.{Timer}
use Rattle.sip_dialog.specs.Sameness.{SameDialogs}
use Rattle.sip_dialog_updates.specs.declared.dialog_update.DialogUpdate.{DialogUpdate}
use Rattle.sip_dialog_updates.specs.DialogUpdates.{after_updates}
use Rattle.sip_location.specs.declared.binding.Binding.{Binding}
use Rattle.sip_fork.specs.steps_model.Step.{NoneBefore, NoneAgainBefore}
use Rattle.sip_digest.specs.declared.nonces.Nonce.{Nonce}
use Rattle.sip_forwarding.specs.declared.arrival.Arrival.{Arrival}
use Rattle.sip_dialog_updates.specs.state.declared.open_request.OpenRequest.{OpenRequest}
use Rattle.sip_dialog_updates.specs.state.declared.proxy_state.ProxyState.{ProxyState}

-- the secrets under which the tables are hashed whose keys peers choose: that of the open requests, and that of the dialogs
pub record Secrets : Type 0 where
  pub requests : WordHasher
  pub dialogs : WordHasher

-- both of these keys
abbrev pub secrets_of : ℕ → Secrets
secrets_of keys = record { requests = fed_first keys; dialogs = fed_first keys }

-- the state of the proxy, the timers that stand, in the order in which they fire, for how many more addresses of record no memory is taken,
-- and the secrets of its tables
pub record Proxy : Type 0 where
  pub state : ProxyState
  pub timers : List Timer
  pub room : ℕ
  pub secrets : Secrets

-- A moment may come: it isn't before the last one, and nothing stands before it.
pub record MayCome (state : ProxyState) (now : ℕ) : Type 0 where
  pub later : state.moment ≤ now
  pub small : now < 2 ^ 62
  pub none_before : NoneBefore now state.requests
  pub none_again : NoneAgainBefore now state.requests

-- A datagram may come: it has the next number, which all open requests are below, and its moment may come.
pub record IsComing (state : ProxyState) (a : Arrival) : Type 0 where
  pub number_is : a.number ≡ state.next
  pub small : state.next < 2 ^ 62
  pub moment : MayCome state a.now
  pub below : All (λ (r : OpenRequest). r.number < state.next) state.requests

-- ---- changes

-- At a moment the state became another one by these open requests and these updates, and nothing else of it changed.
pub record Becomes (now : ℕ) (requests : List OpenRequest) (updates : List DialogUpdate) (old new : ProxyState) : Type 0 where
  pub moment_is : new.moment ≡ now
  pub next_is : new.next ≡ old.next
  pub bindings_are : new.bindings ≡ old.bindings
  pub nonces_are : new.nonces ≡ old.nonces
  pub requests_are : new.requests ≡ requests
  pub dialogs_are : SameDialogs now new.dialogs (after_updates now updates old.dialogs)

-- The next number was taken, and nothing else of the state changed.
pub record IsCounted (old new : ProxyState) : Type 0 where
  pub moment_is : new.moment ≡ old.moment
  pub next_is : new.next ≡ old.next + 1
  pub bindings_are : new.bindings ≡ old.bindings
  pub nonces_are : new.nonces ≡ old.nonces
  pub requests_are : new.requests ≡ old.requests
  pub dialogs_are : new.dialogs ≡ old.dialogs

-- ---- nonces and bindings

-- a state with these nonces
abbrev pub with_nonces : List Nonce → ProxyState → ProxyState
with_nonces nonces state = record state { nonces = nonces }

-- a state with these bindings
abbrev pub with_bindings : List Binding → ProxyState → ProxyState
with_bindings bindings state = record state { bindings = bindings }
