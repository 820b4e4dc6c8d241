-- Nothing is read exactly where nothing fits the grammar.
use Rattle.std.proofs.Common.{◌≡◌, ◌↔◌, Option, Some, None, refl}

pub none_both : {X : Type 0} (P : X → Type 0) (o : Option X) → ((x : X) → (o ≡ Some x) ↔ P x) → (o ≡ None) ↔ ((x : X) → P x → ⊥)
none_both P None both = (λ e x p. let some = (both x).1 p in cc, λ none. refl)
none_both P (Some y) both = (λ e x p. cc, λ none. absurd (none y ((both y).0 refl)))
