-- What goes before its moment is refused by the moment that its step says.
use Rattle.std.proofs.Common.{◌≡◌, ℕ, ◌≤◌, max, List, ◌∷◌, Some, refl, ap, subst, ◌∙◌, arith}
use Rattle.sip_model.specs.state.declared.proxy_state.ProxyState.{ProxyState}
use Rattle.sip_model.specs.steps_model.Examples.{sample}
use Rattle.sip_model.specs.Run.{Link}
use Rattle.sip_model.specs.Access.{moment_in, Access}
use Rattle.model_laws.specs.WrongMoments.{given_up_early, copied_early}
use Rattle.model_laws.proofs.Coming.{differ}

module _ (known after : ProxyState) (earlier : List Link) (last : moment_in earlier ≡ 62000) where
  pub answered_refused : Access sample (given_up_early known after ∷ earlier) → ⊥
  answered_refused access = differ 94000 62100 refl refl (ap (λ (n : ℕ). Some n) (access.0.stands ∙ ap (λ (n : ℕ). max n 62100) last))

  pub copied_refused : Access sample (copied_early known after ∷ earlier) → ⊥
  copied_refused access = by_numbers (subst (λ (n : ℕ). 62500 ≤ max n 62200) last access.0.stands.1) where
    by_numbers : 62500 ≤ 62200 → ⊥
    by_numbers e = absurd (omega (arith, e))
