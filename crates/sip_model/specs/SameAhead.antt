-- When two states are the same for whatever comes.
use Rattle.std.specs.Prelude.{◌≡◌}
use Rattle.sip_location.specs.Sameness.{SameBindings}
use Rattle.model_steps.specs.state.declared.proxy_state.ProxyState.{ProxyState}
use Rattle.model_steps.specs.Effect.{Effect}
use Rattle.sip_model.specs.Nonces.{SameNonces}
use Rattle.sip_model.specs.Known.{SameKnown}

-- Two states are the same ahead: from their moment on each address of record has the same live bindings, in the same order (RFC 3261
-- 10.3, 16.5); the nonces that live are the same, with the counts that they were used with (RFC 2617 3.2.2); the same requests are open,
-- each as far as in the other (RFC 3261 16, 17); the same dialogs are known (RFC 3261 12), in any order, whichever INVITE began one that
-- a 2xx confirmed; and moment and next number are equal. What is left out, nothing that is sent or recorded later depends on.
pub record SameAhead (left right : ProxyState) : Type 0 where
  pub moment : left.moment ≡ right.moment
  pub next : left.next ≡ right.next
  pub bindings : SameBindings left.moment left.bindings right.bindings
  pub nonces : SameNonces left.moment left.nonces right.nonces
  pub requests : left.requests ≡ right.requests
  pub dialogs : SameKnown left.moment left.dialogs right.dialogs

-- Two effects are the same ahead: they send the same packets, for the first time and again, in the same order, record the same, and leave
-- states that are the same ahead.
pub record SendsAlike (left right : Effect) : Type 0 where
  pub originals : left.originals ≡ right.originals
  pub again : left.again ≡ right.again
  pub records : left.records ≡ right.records
  pub state : SameAhead left.state right.state
