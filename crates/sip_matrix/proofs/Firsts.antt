-- The first element of each kind: each element has exactly one of its kind among them.
use Rattle.std.proofs.Common.{◌≡◌, ℕ, ◌+◌, Bool, true, false, ◌||◌, cond, List, [], ◌∷◌, ◌++◌, refl, sym, ap, ap₂, ◌∙◌, true≢false, arith}
use Rattle.std.specs.List.{list_any, count_by}
use Rattle.std.proofs.lemmas.Bool.{or_left, or_right}
use Rattle.std.proofs.lemmas.List.Folds.{list_any-append}
use Rattle.std.proofs.lemmas.List.Sums.{sum_by_push, sum_by-cons}
use Rattle.sip_matrix.specs.Kinds.{with_kind, with_kinds, kinds_of}

or_false : (b : Bool) → (b || false) ≡ b
or_false true = refl
or_false false = refl

zero_more : (b : Bool) → (0 + cond b 1 0) ≡ cond b 1 0
zero_more true = refl
zero_more false = refl

any_last : {X : Type 0} (test : X → Bool) (xs : List X) (y : X) → list_any test (xs ++ y ∷ []) ≡ (list_any test xs || test y)
any_last test xs y = list_any-append test xs (y ∷ []) ∙ ap (λ (b : Bool). list_any test xs || b) (or_false (test y))

count_last : {X : Type 0} (test : X → Bool) (xs : List X) (y : X) → count_by test (xs ++ y ∷ []) ≡ count_by test xs + cond (test y) 1 0
count_last test xs y = sum_by_push (λ x. cond (test x) 1 0) xs y

-- of an element's kind is one among others, or none
record HasOne {X : Type 0} (alike : X → X → Bool) (x : X) (firsts : List X) (there : Bool) : Type 0 where
  pub count : count_by (alike x) firsts ≡ cond there 1 0
  pub among : list_any (alike x) firsts ≡ there

module _ {X : Type 0} (alike : X → X → Bool) (over : (x y z : X) → alike x y ≡ true → alike x z ≡ alike y z) where
  any_over : (x y : X) → alike x y ≡ true → (xs : List X) → list_any (alike x) xs ≡ list_any (alike y) xs
  any_over x y e [] = refl
  any_over x y e (z ∷ zs) = ap₂ (λ (a b : Bool). a || b) (over x y z e) (any_over x y e zs)

  step : (x : X) (firsts : List X) (y : X) (there : Bool) → HasOne alike x firsts there → HasOne alike x (with_kind alike firsts y) (there || alike x y)
  step x firsts y there h = by (list_any (alike y) firsts) refl (alike x y) refl there h
    where
      by : (has : Bool) → list_any (alike y) firsts ≡ has → (same : Bool) → alike x y ≡ same → (there : Bool) → HasOne alike x firsts there
          → HasOne alike x (cond has firsts (firsts ++ y ∷ [])) (there || same)
      by true has same is true h = h
      by true has true is false h = absurd (true≢false (sym (any_over x y is firsts ∙ has) ∙ h.among))
      by true has false is false h = h
      by false has true is true h = absurd (true≢false (sym h.among ∙ any_over x y is firsts ∙ has))
      by false has false is true h = record {
        count = count_last (alike x) firsts y ∙ ap₂ (λ (n : ℕ) (b : Bool). n + cond b 1 0) h.count is;
        among = any_last (alike x) firsts y ∙ ap₂ (λ (a b : Bool). a || b) h.among is;
      }
      by false has same is false h = record {
        count = count_last (alike x) firsts y ∙ ap₂ (λ (n : ℕ) (b : Bool). n + cond b 1 0) h.count is ∙ zero_more same;
        among = any_last (alike x) firsts y ∙ ap₂ (λ (a b : Bool). a || b) h.among is;
      }

  steps : (x : X) (firsts : List X) (there : Bool) (xs : List X) → HasOne alike x firsts there
      → HasOne alike x (with_kinds alike firsts xs) (there || list_any (alike x) xs)
  steps x firsts true [] h = h
  steps x firsts false [] h = h
  steps x firsts true (y ∷ ys) h = steps x (with_kind alike firsts y) true ys (step x firsts y true h)
  steps x firsts false (y ∷ ys) h = steps x (with_kind alike firsts y) (alike x y) ys (step x firsts y false h)

  -- of each kind that a list has, there is exactly one
  pub exactly_one : (x : X) (xs : List X) → list_any (alike x) xs ≡ true → count_by (alike x) (kinds_of alike xs) ≡ 1
  exactly_one x xs e =
      let h : HasOne alike x (kinds_of alike xs) (list_any (alike x) xs) = steps x [] false xs (record { count = refl; among = refl }) in
      h.count ∙ ap (λ (b : Bool). cond b 1 0) e

-- what is counted is there
pub counted_there : {X : Type 0} (test : X → Bool) (xs : List X) → count_by test xs ≡ 1 → list_any test xs ≡ true
counted_there test [] e = absurd (omega arith)
counted_there test (x ∷ xs) e = by (test x) refl (counted_there test xs)
  where
    by : (b : Bool) → test x ≡ b → (count_by test xs ≡ 1 → list_any test xs ≡ true) → list_any test (x ∷ xs) ≡ true
    by true is rest = or_left _ _ is
    by false is rest =
        let fewer : 0 + count_by test xs ≡ 1 =
        sym (ap (λ (b : Bool). cond b 1 0 + count_by test xs) is) ∙ sym (sum_by-cons (λ y. cond (test y) 1 0) x xs) ∙ e in
        or_right _ _ (rest (omega (arith, fewer)))
