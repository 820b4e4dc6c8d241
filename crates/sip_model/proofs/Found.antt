-- What is found where at most one passes, and what stays of open requests where one is replaced.
use Rattle.std.proofs.Common.{◌≡◌, inl, inr, ℕ, ◌≤◌, ◌==◌, Bool, true, false, not, ◌&&◌, cond, List, [], ◌∷◌, find, count_by, Option, Some, refl, sym, ap, ◌∙◌}
use Rattle.std.proofs.Common.{true≢false, arith}
use Rattle.model_steps.specs.state.declared.branch.Branch.{Branch}
use Rattle.model_steps.specs.state.declared.open_request.OpenRequest.{OpenRequest}
use Rattle.model_steps.specs.state.State.{has_left}
use Rattle.model_steps.specs.context_model.Branches.{is_unheard}
use Rattle.model_steps.specs.Effect.{replaced}
use Rattle.model_steps.specs.Step.{is_failed}
use Rattle.sip_model.specs.Order.{is_numbered}
use Rattle.sip_model.proofs.Places.{IsIn, count_cons, one_at, counts_in, count_at_most, same_number}
use Rattle.sip_model.proofs.Apart.{TargetsDiffer, goes_to}

-- what passes is found, where nothing else does
pub find_only : {X : Type 0} (test : X → Bool) (xs : List X) (x : X) → IsIn x xs → test x ≡ true → count_by test xs ≤ 1 → find test xs ≡ Some x
find_only test [] x there passes few = absurd there
find_only {X} test (y ∷ ys) x there passes few = by_test (test y) refl there (λ later less. find_only test ys x later passes less) where
  by_test : (t : Bool) → test y ≡ t → IsIn x (y ∷ ys) → (IsIn x ys → count_by test ys ≤ 1 → find test ys ≡ Some x) → cond t (Some y) (find test ys) ≡ Some x
  by_test true is (inl here) rest = ap (λ (z : X). Some z) here
  by_test true is (inr later) rest = absurd (omega (arith, few, count_cons test y ys, one_at (test y) is, counts_in test ys x later passes))
  by_test false is (inl here) rest = absurd (true≢false (sym passes ∙ ap test (sym here) ∙ is))
  by_test false is (inr later) rest = rest later (omega (arith, few, count_cons test y ys))

-- two that were found alike are one
same_found : {X : Type 0} (o : Option X) (x y : X) → o ≡ Some x → o ≡ Some y → x ≡ y
same_found o x y e f = cc

-- open requests of one number are one
pub one_request : (rs : List OpenRequest) (r q : OpenRequest) → count_by (is_numbered q.number) rs ≤ 1 → IsIn r rs → IsIn q rs → r.number ≡ q.number → r ≡ q
one_request rs r q few first second same =
    same_found (find (is_numbered q.number) rs) r q (find_only (is_numbered q.number) rs r first (same_number r.number q.number same) few)
    (find_only (is_numbered q.number) rs q second (same_number q.number q.number refl) few)

-- the branch of a ticket is found, where targets differ
pub failed_found : (bs : List Branch) (b : Branch) (number : ℕ) → TargetsDiffer bs → IsIn b bs → b.is_cancel ≡ false → number ≡ b.number → is_unheard b.phase ≡ true
    → find (is_failed number) bs ≡ Some b
failed_found bs b number differ there target same unheard =
    find_only (is_failed number) bs b there (three b.is_cancel (b.number == number) (is_unheard b.phase) target (same_number b.number number (sym same)) unheard)
    few where
      three : (x y z : Bool) → x ≡ false → y ≡ true → z ≡ true → (not x && y && z) ≡ true
      three false true true e f g = refl
      three true y z e f g = absurd (cc)
      three false false z e f g = absurd (cc)
      three false true false e f g = absurd (cc)

      narrower : (x : Branch) (c n u : Bool) → (not c && n && u) ≡ true → (n && not c) ≡ true
      narrower x false true true e = refl
      narrower x true n u e = absurd (cc)
      narrower x false false u e = absurd (cc)
      narrower x false true false e = absurd (cc)

      few : count_by (is_failed number) bs ≤ 1
      few =
          let less = count_at_most (is_failed number) (goes_to number) bs (λ x. narrower x x.is_cancel (x.number == number) (is_unheard x.phase)) in
          let one = differ number in
          omega (arith, less, one)

-- ---- replacing

-- a request of another number stays
pub other_stays : (new : OpenRequest) (rs : List OpenRequest) (x : OpenRequest) → IsIn x rs → (x.number == new.number) ≡ false → IsIn x (replaced new rs)
other_stays new [] x there other = absurd there
other_stays new (y ∷ ys) x there other = by_test (y.number == new.number) refl (has_left new) there (λ later. other_stays new ys x later other) where
  by_test : (t : Bool) → (y.number == new.number) ≡ t → (left : Bool) → IsIn x (y ∷ ys) → (IsIn x ys → IsIn x (replaced new ys))
      → IsIn x (cond t (cond left ys (new ∷ ys)) (y ∷ replaced new ys))
  by_test true is left (inl here) rest = absurd (true≢false (sym is ∙ ap (λ (z : OpenRequest). z.number == new.number) here ∙ other))
  by_test true is true (inr later) rest = later
  by_test true is false (inr later) rest = inr later
  by_test false is left (inl here) rest = inl here
  by_test false is left (inr later) rest = inr (rest later)

-- and the new one is there, unless it left
pub new_there : (new : OpenRequest) (rs : List OpenRequest) (old : OpenRequest) → IsIn old rs → old.number ≡ new.number → has_left new ≡ false
    → IsIn new (replaced new rs)
new_there new [] old there same stays = absurd there
new_there new (y ∷ ys) old there same stays = by_test (y.number == new.number) refl (has_left new) stays there (λ later. new_there new ys old later same stays) where
  by_test : (t : Bool) → (y.number == new.number) ≡ t → (left : Bool) → left ≡ false → IsIn old (y ∷ ys) → (IsIn old ys → IsIn new (replaced new ys))
      → IsIn new (cond t (cond left ys (new ∷ ys)) (y ∷ replaced new ys))
  by_test true is true e there rest = absurd (cc)
  by_test true is false e there rest = inl refl
  by_test false is left e (inl here) rest = absurd (true≢false (sym (same_number y.number new.number (ap (λ (z : OpenRequest). z.number) here ∙ same)) ∙ is))
  by_test false is left e (inr later) rest = inr (rest later)
