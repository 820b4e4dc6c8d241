-- Lists by how many of their elements pass a test.
use Rattle.std.proofs.Common.{◌≡◌, ◌+◌, Bool, List, ◌∷◌, ◌++◌, cond}
use Rattle.std.specs.Prelude.{count_by}
use Rattle.std.proofs.lemmas.List.Sums.{sum_by-cons, sum_by-append}

pub count-cons : {X : Type 0} (p : X → Bool) (x : X) (xs : List X) → count_by p (x ∷ xs) ≡ cond (p x) 1 0 + count_by p xs
count-cons p x xs = sum_by-cons (λ x. cond (p x) 1 0) x xs

pub count-append : {X : Type 0} (p : X → Bool) (xs ys : List X) → count_by p (xs ++ ys) ≡ count_by p xs + count_by p ys
count-append p xs ys = sum_by-append (λ x. cond (p x) 1 0) xs ys
