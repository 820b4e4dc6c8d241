-- Sameness ahead is an equivalence, and what is equal but for order is so.
use Rattle.std.proofs.Common.{◌≡◌, ◌∙◌, ℕ, List, sym, ap, subst}
use Rattle.sip_location.specs.declared.binding.Binding.{Binding}
use Rattle.sip_location.specs.Binding.{live}
use Rattle.sip_location.specs.Sameness.{SameBindings}
use Rattle.model_steps.specs.state.declared.proxy_state.ProxyState.{ProxyState}
use Rattle.model_steps.specs.state.SameState.{SameState}
use Rattle.sip_digest.specs.Nonces.{lasting}
use Rattle.sip_model.specs.Nonces.{SameNonces}
use Rattle.sip_model.specs.Known.{SameKnown}
use Rattle.sip_model.specs.SameAhead.{SameAhead}
use Rattle.sip_model.proofs.SameKnown.{seen_same, known_self, known_turned, known_joined}

-- bindings that say the same do so either way round, and through others
rows_turned : (from : ℕ) (left right : List Binding) → SameBindings from left right → SameBindings from right left
rows_turned from left right h = λ aor moment after. sym (h aor moment after)

rows_joined : (from : ℕ) (left middle right : List Binding) → SameBindings from left middle → SameBindings from middle right → SameBindings from left right
rows_joined from left middle right h k = λ aor moment after. h aor moment after ∙ k aor moment after

-- states that are the same are so ahead
pub ahead_of_same : (left right : ProxyState) → SameState left right → SameAhead left right
ahead_of_same left right h = record {
  moment = h.moment;
  next = h.next;
  bindings = h.bindings;
  nonces = ap (lasting left.moment) h.nonces;
  requests = h.requests;
  dialogs = seen_same left.moment left.dialogs right.dialogs h.dialogs;
}

-- each state is so as itself
pub ahead_self : (left right : ProxyState) → left ≡ right → SameAhead left right
ahead_self left right e = record {
  moment = ap (λ (s : ProxyState). s.moment) e;
  next = ap (λ (s : ProxyState). s.next) e;
  bindings = λ aor moment after. ap (λ (s : ProxyState). live aor moment s.bindings) e;
  nonces = ap (λ (s : ProxyState). lasting left.moment s.nonces) e;
  requests = ap (λ (s : ProxyState). s.requests) e;
  dialogs = known_self left.moment left.dialogs right.dialogs (ap (λ (s : ProxyState). s.dialogs) e);
}

-- either way round
pub ahead_turned : (left right : ProxyState) → SameAhead left right → SameAhead right left
ahead_turned left right h = record {
  moment = sym h.moment;
  next = sym h.next;
  bindings = subst (λ (moment : ℕ). SameBindings moment right.bindings left.bindings) h.moment (rows_turned left.moment left.bindings right.bindings h.bindings);
  nonces = subst (λ (moment : ℕ). SameNonces moment right.nonces left.nonces) h.moment (sym h.nonces);
  requests = sym h.requests;
  dialogs = subst (λ (moment : ℕ). SameKnown moment right.dialogs left.dialogs) h.moment (known_turned left.moment left.dialogs right.dialogs h.dialogs);
}

-- and through a third
pub ahead_joined : (left middle right : ProxyState) → SameAhead left middle → SameAhead middle right → SameAhead left right
ahead_joined left middle right h k = record {
  moment = h.moment ∙ k.moment;
  next = h.next ∙ k.next;
  bindings = rows_joined left.moment left.bindings middle.bindings right.bindings h.bindings
      (subst (λ (moment : ℕ). SameBindings moment middle.bindings right.bindings) (sym h.moment) k.bindings);
  nonces = h.nonces ∙ subst (λ (moment : ℕ). SameNonces moment middle.nonces right.nonces) (sym h.moment) k.nonces;
  requests = h.requests ∙ k.requests;
  dialogs = known_joined left.moment left.dialogs middle.dialogs right.dialogs h.dialogs
      (subst (λ (moment : ℕ). SameKnown moment middle.dialogs right.dialogs) (sym h.moment) k.dialogs);
}
