-- The front of a datagram that is kept.
use Rattle.std.proofs.Common.{◌≡◌, ℕ, zero, suc, ◌+◌, ◌-◌, ◌≤◌, List, [], ◌∷◌, ◌++◌, length, take, refl, sym, ◌∙◌, ap, arith, append_assoc, length-append}
use Rattle.std.proofs.lemmas.List.{take_all}
use Rattle.std.proofs.Math.Seq.{take-append-add}

pub kept_whole : (most : ℕ) (old part new : List ℕ) → length old ≤ most → length part ≤ most - length old → new ≡ old ++ part → new ≡ take most (old ++ part)
kept_whole most old part new le fits is = is ∙ sym (take_all most (old ++ part) (omega (arith, length-append old part)))

pub kept_front : (most : ℕ) (old part new : List ℕ) → length old ≤ most → new ≡ old ++ take (most - length old) part → new ≡ take most (old ++ part)
kept_front most old part new le is =
    let sum : length old + (most - length old) ≡ most = omega arith in
    is ∙ sym (take-append-add old part (most - length old)) ∙ ap (λ n. take n (old ++ part)) sum

-- the front of two texts, the first of which was cut
pub front_of_both : (most : ℕ) (xs ys : List ℕ) → take most (take most xs ++ ys) ≡ take most (xs ++ ys)
front_of_both zero xs ys = refl
front_of_both (suc most) [] ys = refl
front_of_both (suc most) (x ∷ xs) ys = ap (λ l. x ∷ l) (front_of_both most xs ys)

-- two parts, each as far as it is kept
pub kept_two : (most : ℕ) (old part more seen first new : List ℕ) → seen ≡ part → first ≡ take most (old ++ seen) → new ≡ take most (first ++ more)
    → new ≡ take most (old ++ (part ++ more))
kept_two most old part more seen first new same is1 is2 =
    is2 ∙ ap (λ l. take most (l ++ more)) is1 ∙ front_of_both most (old ++ seen) more ∙ ap (take most) (append_assoc old seen more)
    ∙ ap (λ l. take most (old ++ (l ++ more))) same
