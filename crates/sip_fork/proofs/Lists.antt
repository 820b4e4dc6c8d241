-- Lists by how many of their elements pass a test, and what holds of each element.
use Rattle.std.proofs.Common.{◌≡◌, ◌+◌, List, [], ◌∷◌, ◌++◌, cond, Bool, true, false, refl, arith}
use Rattle.std.specs.Prelude.{count_by}
use Rattle.std.specs.List.{AllByRecursion}
use Rattle.std.proofs.lemmas.List.Sums.{sum_by-append}
use Rattle.sip_timers.proofs.Counting.{count-cons}

pub count-append : {X : Type 0} (p : X → Bool) (xs ys : List X) → count_by p (xs ++ ys) ≡ count_by p xs + count_by p ys
count-append p xs ys = sum_by-append (λ x. cond (p x) 1 0) xs ys

-- where what holds of each excludes a test, none passes it
pub none_passes : {X : Type 0} (P : X → Type 0) (test : X → Bool) → ((x : X) → P x → test x ≡ false) → (xs : List X) → AllByRecursion P xs → count_by test xs ≡ 0
none_passes P test f [] a = refl
none_passes P test f (x ∷ xs) a = by_test (test x) (f x a.0) (count-cons test x xs) (none_passes P test f xs a.1) where
  by_test : (t : Bool) → t ≡ false → count_by test (x ∷ xs) ≡ cond t 1 0 + count_by test xs → count_by test xs ≡ 0 → count_by test (x ∷ xs) ≡ 0
  by_test false is e rest = omega (arith, e, rest)
  by_test true is e rest = absurd (cc)

-- what holds of each element of two lists holds of each of both
pub all_append : {X : Type 0} (P : X → Type 0) (xs ys : List X) → AllByRecursion P xs → AllByRecursion P ys → AllByRecursion P (xs ++ ys)
all_append P [] ys a b = b
all_append P (x ∷ xs) ys a b = (a.0, all_append P xs ys a.1 b)

-- what follows for each element follows for all
pub all_weaker : {X : Type 0} (P Q : X → Type 0) → ((x : X) → P x → Q x) → (xs : List X) → AllByRecursion P xs → AllByRecursion Q xs
all_weaker P Q f [] a = tt
all_weaker P Q f (x ∷ xs) a = (f x a.0, all_weaker P Q f xs a.1)
