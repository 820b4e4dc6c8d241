-- One more try of a source, among those that are kept.
use Rattle.std.proofs.Common.{◌≡◌, ℕ, ◌+◌, ◌<◌, ◌≤◌, zero, suc, Bool, true, false, cond, not, ◌||◌, List, [], ◌∷◌, ◌++◌, length, set, get_or, position, Some, None}
use Rattle.std.proofs.Common.{if◌then◌else◌, refl, sym, ap, ◌∙◌, arith, nat_lt}
use Rattle.std.specs.List.{list_any, position_or_len}
use Rattle.std.proofs.lemmas.Bool.Decides.{nat_tests}
use Rattle.std.proofs.lemmas.Grind.{common_steps}
use Rattle.std.proofs.lemmas.List.Quantifiers.{position-Some}
use Rattle.sipd_status.specs.declared.tries.TriedSource.{TriedSource}
use Rattle.sipd_status.specs.Tries.{behind, changed_among, is_of, most_sources}

any_at : (ip : List ℕ) (xs : List TriedSource) (i : ℕ) (d : TriedSource) → i < length xs → is_of ip (get_or xs i d) ≡ true → list_any (is_of ip) xs ≡ true
any_at ip [] i d h t = absurd (omega (arith, h))
any_at ip (x ∷ xs) zero d h t = ap (λ (b : Bool). b || list_any (is_of ip) xs) t
any_at ip (x ∷ xs) (suc i) d h t = by (is_of ip x) (any_at ip xs i d (omega (arith, h)) t)
  where
    by : (b : Bool) → list_any (is_of ip) xs ≡ true → (b || list_any (is_of ip) xs) ≡ true
    by true e = refl
    by false e = e

set_at : (f : TriedSource → TriedSource) (ip : List ℕ) (xs : List TriedSource) (i : ℕ) (d : TriedSource) → i < length xs → is_of ip (get_or xs i d) ≡ true
    → ((k : ℕ) → k < i → is_of ip (get_or xs k d) ≡ false)
    → set xs i (f (get_or xs i d)) ≡ changed_among f ip xs
set_at f ip [] i d h t g = absurd (omega (arith, h))
set_at f ip (x ∷ xs) zero d h t g = sym (ap (λ (b : Bool). if b then f x ∷ xs else x ∷ changed_among f ip xs) t)
set_at f ip (x ∷ xs) (suc i) d h t g =
    ap (λ (rest : List TriedSource). x ∷ rest) (set_at f ip xs i d (omega (arith, h)) t (λ k l. g (suc k) (omega (arith, l))))
    ∙ sym (ap (λ (b : Bool). if b then f x ∷ xs else x ∷ changed_among f ip xs) (g zero (omega arith)))

-- a source that is there changes
pub tried_one : (f : TriedSource → TriedSource) (first : TriedSource) (xs : List TriedSource) (i : ℕ) (y d : TriedSource) → position (is_of first.ip) xs ≡ Some i
    → y ≡ f (get_or xs i d) → set xs i y ≡ behind f first xs
tried_one f first xs i y d e is =
    let at = position-Some (is_of first.ip) xs i d e in
    ap (λ (z : TriedSource). set xs i z) is
    ∙ set_at f first.ip xs i d at.0 at.1 at.2
    ∙ sym (ap (λ (b : Bool). if b then changed_among f first.ip xs else if nat_lt (length xs) most_sources then xs ++ first ∷ [] else xs)
    (any_at first.ip xs i d at.0 at.1))

none_before : (p : TriedSource → Bool) (xs : List TriedSource) → length xs ≤ position_or_len p xs → list_any p xs ≡ false
none_before p [] h = refl
none_before p (x ∷ xs) h = by (p x) refl (none_before p xs)
  where
    by : (b : Bool) → p x ≡ b → (length xs ≤ position_or_len p xs → list_any p xs ≡ false) → (p x || list_any p xs) ≡ false
    by true e rest = absurd (omega (arith, h, ap (λ (c : Bool). cond {A = ℕ} (not c) (1 + position_or_len p xs) 0) e))
    by false e rest = ap (λ (c : Bool). c || list_any p xs) e ∙ rest (omega (arith, h, ap (λ (c : Bool). cond {A = ℕ} (not c) (1 + position_or_len p xs) 0) e))

none_there : (p : TriedSource → Bool) (xs : List TriedSource) → position p xs ≡ None → list_any p xs ≡ false
none_there p xs e = none_before p xs (grind (arith, common_steps))

-- one that isn't there stands at the end
pub tried_new : (f : TriedSource → TriedSource) (first : TriedSource) (xs : List TriedSource) → position (is_of first.ip) xs ≡ None → length xs < most_sources
    → xs ++ first ∷ [] ≡ behind f first xs
tried_new f first xs e h = rw (none_there (is_of first.ip) xs e) (let few : nat_lt (length xs) most_sources ≡ true = grind (arith, nat_tests) in rw few refl)

-- where there is room
pub tried_full : (f : TriedSource → TriedSource) (first : TriedSource) (xs : List TriedSource) → position (is_of first.ip) xs ≡ None → most_sources ≤ length xs
    → xs ≡ behind f first xs
tried_full f first xs e h = rw (none_there (is_of first.ip) xs e) (let many : nat_lt (length xs) most_sources ≡ false = grind (arith, nat_tests) in rw many refl)
