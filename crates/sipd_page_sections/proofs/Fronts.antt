-- Lines that are the same, one after the other.
use Rattle.std.proofs.Common.{◌≡◌, ◌<◌, ◌≤◌, ℕ, suc, ◌+◌, min, Bool, true, false, List, [], ◌∷◌, length, drop, get_or, refl, ◌∙◌, arith, leb, leb-true, leb-false}
use Rattle.std.specs.Prelude.{if◌then◌else◌}
use Rattle.std.specs.Str.{bytes_eq}
use Rattle.std.proofs.lemmas.List.{at_drop_all, at_drop_more}
use Rattle.sipd_page_sections.specs.Log.{same_front}

both : (xs ys : List (List ℕ)) (i : ℕ) (x y : List ℕ) → i < length xs → i < length ys
    → same_front (drop i xs) (drop i ys) ≡ same_front (get_or xs i x ∷ drop (i + 1) xs) (get_or ys i y ∷ drop (i + 1) ys)
both xs ys i x y in_xs in_ys =
    at_drop_more (λ (l : List (List ℕ)). same_front l (drop i ys)) xs i x in_xs
    ∙ at_drop_more (λ (l : List (List ℕ)). same_front (get_or xs i x ∷ drop (i + 1) xs) l) ys i y in_ys

by_test : (same : Bool) (n : ℕ) → same ≡ true → (if same then suc n else 0) ≡ suc n
by_test true n is = refl
by_test false n is = absurd cc

by_other : (same : Bool) (n : ℕ) → same ≡ false → (if same then suc n else 0) ≡ 0
by_other true n is = absurd cc
by_other false n is = refl

-- one line more is the same
pub goes_on : (xs ys : List (List ℕ)) (i all : ℕ) (x y : List ℕ) → i < length xs → i < length ys → bytes_eq (get_or xs i x) (get_or ys i y) ≡ true
    → all ≡ i + same_front (drop i xs) (drop i ys) → all ≡ (i + 1) + same_front (drop (i + 1) xs) (drop (i + 1) ys)
goes_on xs ys i all x y in_xs in_ys same so_far =
    let here : same_front (drop i xs) (drop i ys) ≡ suc (same_front (drop (i + 1) xs) (drop (i + 1) ys)) =
    both xs ys i x y in_xs in_ys ∙ by_test (bytes_eq (get_or xs i x) (get_or ys i y)) (same_front (drop (i + 1) xs) (drop (i + 1) ys)) same in
    omega (arith, here, so_far)

-- it isn't
pub stops : (xs ys : List (List ℕ)) (i all : ℕ) (x y : List ℕ) → i < length xs → i < length ys → bytes_eq (get_or xs i x) (get_or ys i y) ≡ false
    → all ≡ i + same_front (drop i xs) (drop i ys) → i ≡ all
stops xs ys i all x y in_xs in_ys other so_far =
    let here : same_front (drop i xs) (drop i ys) ≡ 0 =
    both xs ys i x y in_xs in_ys ∙ by_other (bytes_eq (get_or xs i x) (get_or ys i y)) (same_front (drop (i + 1) xs) (drop (i + 1) ys)) other in
    omega (arith, here, so_far)

-- there is none more of one of both
nothing : (xs : List (List ℕ)) → same_front xs [] ≡ 0
nothing [] = refl
nothing (x ∷ xs) = refl

first_over : (xs ys : List (List ℕ)) (i all : ℕ) → length xs ≤ i → all ≡ i + same_front (drop i xs) (drop i ys) → i ≡ all
first_over xs ys i all past so_far =
    let here : same_front (drop i xs) (drop i ys) ≡ 0 = at_drop_all (λ (l : List (List ℕ)). same_front l (drop i ys)) xs i past in
    omega (arith, here, so_far)

second_over : (xs ys : List (List ℕ)) (i all : ℕ) → length ys ≤ i → all ≡ i + same_front (drop i xs) (drop i ys) → i ≡ all
second_over xs ys i all past so_far =
    let here : same_front (drop i xs) (drop i ys) ≡ 0 =
    at_drop_all (λ (l : List (List ℕ)). same_front (drop i xs) l) ys i past ∙ nothing (drop i xs) in
    omega (arith, here, so_far)

over_by : (xs ys : List (List ℕ)) (i all : ℕ) (first : Bool) → leb (length xs) i ≡ first → min (length xs) (length ys) ≤ i
    → all ≡ i + same_front (drop i xs) (drop i ys) → i ≡ all
over_by xs ys i all true is past so_far = first_over xs ys i all (leb-true (length xs) i is) so_far
over_by xs ys i all false is past so_far =
    let more : i < length xs = leb-false (length xs) i is in
    second_over xs ys i all (omega (arith, more, past)) so_far

pub over : (xs ys : List (List ℕ)) (i most all : ℕ) → most ≡ min (length xs) (length ys) → most ≤ i → i ≤ most
    → all ≡ i + same_front (drop i xs) (drop i ys) → most ≡ all
over xs ys i most all least past within so_far =
    let last : most ≡ i = omega (arith, past, within) in
    last ∙ over_by xs ys i all (leb (length xs) i) refl (omega (arith, least, past)) so_far
