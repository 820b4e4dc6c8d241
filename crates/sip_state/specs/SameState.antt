-- When two states are the same.
use Rattle.std.specs.Prelude.{◌≡◌}
use Rattle.sip_location.specs.Sameness.{SameBindings}
use Rattle.sip_dialog.specs.Sameness.{SameDialogs}
use Rattle.sip_state.specs.declared.proxy_state.ProxyState.{ProxyState}

-- Two states are the same where from their moment on each address of record has the same live bindings, in the same order, the known
-- dialogs are the same, in any order, and all else is
-- equal.
pub record SameState (left right : ProxyState) : Type 0 where
  pub moment : left.moment ≡ right.moment
  pub next : left.next ≡ right.next
  pub bindings : SameBindings left.moment left.bindings right.bindings
  pub nonces : left.nonces ≡ right.nonces
  pub requests : left.requests ≡ right.requests
  pub dialogs : SameDialogs left.moment left.dialogs right.dialogs
