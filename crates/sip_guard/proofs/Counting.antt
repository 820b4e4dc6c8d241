-- One more datagram of a source, among those that are counted.
use Rattle.std.proofs.Common.{◌≡◌, ℕ, ◌+◌, ◌<◌, ◌≤◌, zero, suc, Bool, true, false, cond, not, ◌||◌, List, [], ◌∷◌, ◌++◌, length, set, get_or, position, Some, None}
use Rattle.std.proofs.Common.{if◌then◌else◌, refl, sym, ap, ◌∙◌, arith, nat_lt}
use Rattle.std.specs.List.{list_any, position_or_len}
use Rattle.std.proofs.lemmas.Bool.Decides.{nat_tests}
use Rattle.std.proofs.lemmas.Grind.{common_steps}
use Rattle.std.proofs.lemmas.List.Quantifiers.{position-Some}
use Rattle.sip_transport.specs.Told.{counted}
use Rattle.sip_guard.specs.declared.unheard.UnheardSource.{UnheardSource}
use Rattle.sip_guard.specs.Unheard.{is_of, counted_among, sources_behind, most_sources}

-- one more of a source
abbrev pub one_more : UnheardSource → UnheardSource
one_more source = record source { count = counted source.count }

any_at : (ip : List ℕ) (xs : List UnheardSource) (i : ℕ) (d : UnheardSource) → i < length xs → is_of ip (get_or xs i d) ≡ true → list_any (is_of ip) xs ≡ true
any_at ip [] i d h t = absurd (omega (arith, h))
any_at ip (x ∷ xs) zero d h t = ap (λ (b : Bool). b || list_any (is_of ip) xs) t
any_at ip (x ∷ xs) (suc i) d h t = by (is_of ip x) (any_at ip xs i d (omega (arith, h)) t)
  where
    by : (b : Bool) → list_any (is_of ip) xs ≡ true → (b || list_any (is_of ip) xs) ≡ true
    by true e = refl
    by false e = e

set_at : (ip : List ℕ) (xs : List UnheardSource) (i : ℕ) (d : UnheardSource) → i < length xs → is_of ip (get_or xs i d) ≡ true
    → ((k : ℕ) → k < i → is_of ip (get_or xs k d) ≡ false)
    → set xs i (one_more (get_or xs i d)) ≡ counted_among ip xs
set_at ip [] i d h t f = absurd (omega (arith, h))
set_at ip (x ∷ xs) zero d h t f = sym (ap (λ (b : Bool). if b then one_more x ∷ xs else x ∷ counted_among ip xs) t)
set_at ip (x ∷ xs) (suc i) d h t f =
    ap (λ (rest : List UnheardSource). x ∷ rest) (set_at ip xs i d (omega (arith, h)) t (λ k l. f (suc k) (omega (arith, l))))
    ∙ sym (ap (λ (b : Bool). if b then one_more x ∷ xs else x ∷ counted_among ip xs) (f zero (omega arith)))

pub noted_one : (ip : List ℕ) (xs : List UnheardSource) (i : ℕ) (y d : UnheardSource) → position (is_of ip) xs ≡ Some i → y ≡ one_more (get_or xs i d)
    → set xs i y ≡ sources_behind ip xs
noted_one ip xs i y d e is =
    let at = position-Some (is_of ip) xs i d e in
    ap (λ (z : UnheardSource). set xs i z) is
    ∙ set_at ip xs i d at.0 at.1 at.2
    ∙ sym (ap (λ (b : Bool). if b then counted_among ip xs else if nat_lt (length xs) most_sources then xs ++ record { ip = ip; count = 1 } ∷ [] else xs)
    (any_at ip xs i d at.0 at.1))

none_before : (p : UnheardSource → Bool) (xs : List UnheardSource) → length xs ≤ position_or_len p xs → list_any p xs ≡ false
none_before p [] h = refl
none_before p (x ∷ xs) h = by (p x) refl (none_before p xs)
  where
    by : (b : Bool) → p x ≡ b → (length xs ≤ position_or_len p xs → list_any p xs ≡ false) → (p x || list_any p xs) ≡ false
    by true e rest = absurd (omega (arith, h, ap (λ (c : Bool). cond {A = ℕ} (not c) (1 + position_or_len p xs) 0) e))
    by false e rest = ap (λ (c : Bool). c || list_any p xs) e ∙ rest (omega (arith, h, ap (λ (c : Bool). cond {A = ℕ} (not c) (1 + position_or_len p xs) 0) e))

none_there : (p : UnheardSource → Bool) (xs : List UnheardSource) → position p xs ≡ None → list_any p xs ≡ false
none_there p xs e = none_before p xs (grind (arith, common_steps))

pub noted_new : (ip : List ℕ) (xs : List UnheardSource) → position (is_of ip) xs ≡ None → length xs < most_sources
    → xs ++ record { ip = ip; count = 1 } ∷ [] ≡ sources_behind ip xs
noted_new ip xs e h = rw (none_there (is_of ip) xs e) (let few : nat_lt (length xs) most_sources ≡ true = grind (arith, nat_tests) in rw few refl)

pub noted_full : (ip : List ℕ) (xs : List UnheardSource) → position (is_of ip) xs ≡ None → most_sources ≤ length xs → xs ≡ sources_behind ip xs
noted_full ip xs e h = rw (none_there (is_of ip) xs e) (let many : nat_lt (length xs) most_sources ≡ false = grind (arith, nat_tests) in rw many refl)
