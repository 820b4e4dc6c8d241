-- Lists by how many of their elements pass each test.
use Rattle.std.proofs.Common.{◌≡◌, ◌+◌, ◌≤◌, List, [], ◌∷◌, cond, Bool, true, refl, arith}
use Rattle.std.specs.Prelude.{not, ◌&&◌, filter, count_by}
use Rattle.std.proofs.lemmas.List.Sums.{sum_by-cons}

pub count-cons : {X : Type 0} (p : X → Bool) (x : X) (xs : List X) → count_by p (x ∷ xs) ≡ cond (p x) 1 0 + count_by p xs
count-cons p x xs = sum_by-cons (λ x. cond (p x) 1 0) x xs

pub count-filter : {X : Type 0} (p q : X → Bool) (xs : List X) → count_by p (filter q xs) ≡ count_by (λ x. q x && p x) xs
count-filter p q [] = refl
count-filter p q (x ∷ xs) = grind (arith, count-filter p q xs, count-cons p x (filter q xs), count-cons (λ x. q x && p x) x xs)

pub count_split : {X : Type 0} (p q : X → Bool) (xs : List X) → count_by p xs ≡ count_by (λ x. q x && p x) xs + count_by (λ x. not (q x) && p x) xs
count_split p q [] = refl
count_split p q (x ∷ xs) = grind (arith, count_split p q xs, count-cons p x xs, count-cons (λ x. q x && p x) x xs, count-cons (λ x. not (q x) && p x) x xs)

pub count_le : {X : Type 0} (p q : X → Bool) (xs : List X) → ((x : X) → p x ≡ true → q x ≡ true) → count_by p xs ≤ count_by q xs
count_le p q [] h = omega arith
count_le p q (x ∷ xs) h = grind (arith, count_le p q xs h, count-cons p x xs, count-cons q x xs, h x)
