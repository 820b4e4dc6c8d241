-- Open requests have numbers below the next, and what is due later than a moment isn't before it.
use Rattle.std.proofs.Common.{◌≡◌, ◌<◌, ◌≤◌, ◌+◌, ℕ, Bool, true, false, cond, eqb, List, [], ◌∷◌, count_by, nat_lt, refl, ap, arith}
use Rattle.std.specs.List.{All, AllByRecursion}
use Rattle.std.proofs.lemmas.Bool.Decides.{nat_tests}
use Rattle.std.proofs.lemmas.List.Elements.{All-cons}
use Rattle.std.proofs.lemmas.List.Sums.{sum_by-cons}
use Rattle.sip_model.specs.Order.{is_numbered}
use Rattle.sip_verdict.specs.state.declared.open_request.OpenRequest.{OpenRequest}

count-cons : {X : Type 0} (p : X → Bool) (x : X) (xs : List X) → count_by p (x ∷ xs) ≡ cond (p x) 1 0 + count_by p xs
count-cons p x xs = sum_by-cons (λ x. cond (p x) 1 0) x xs

pub are_below : (next : ℕ) (requests : List OpenRequest) → ((number : ℕ) → next ≤ number → count_by (is_numbered number) requests ≡ 0)
    → All (λ (r : OpenRequest). r.number < next) requests
are_below next [] none = λ i d lt. absurd (omega (arith, lt))
are_below next (r ∷ rs) none = All-cons (λ (x : OpenRequest). x.number < next) r rs (by_test (nat_lt r.number next) refl) (are_below next rs rest) where
  rest : (number : ℕ) → next ≤ number → count_by (is_numbered number) rs ≡ 0
  rest number from = omega (arith, none number from, count-cons (is_numbered number) r rs)

  by_test : (b : Bool) → nat_lt r.number next ≡ b → r.number < next
  by_test true is = grind (arith, nat_tests, is)
  by_test false is =
      let from : next ≤ r.number = grind (arith, nat_tests, is) in
      let same : eqb r.number r.number ≡ true = grind (arith, nat_tests) in
      let one : cond {A = ℕ} (eqb r.number r.number) 1 0 ≡ 1 = ap (λ (b : Bool). cond {A = ℕ} b 1 0) same in
      absurd (omega (arith, none r.number from, one, count-cons (is_numbered r.number) r rs))

pub later_is_not_before : (moment : ℕ) (dues : List ℕ) → AllByRecursion (λ (due : ℕ). moment < due) dues → AllByRecursion (λ (due : ℕ). moment ≤ due) dues
later_is_not_before moment [] h = tt
later_is_not_before moment (due ∷ dues) h = (let lt : moment < due = h.0 in omega (arith, lt), later_is_not_before moment dues h.1)
