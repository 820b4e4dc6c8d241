-- A text at the front of a value, sixteen bytes at a time.
use Rattle.std.proofs.Common.{◌≡◌, ◌∙◌, ℕ, ◌+◌, ◌-◌, ◌*◌, ◌%◌, ◌^◌, ◌≤◌, eqb, Bool, true, false, not, cond, List, [], ◌∷◌, ◌++◌, map, length, take, drop, w8, refl, sym}
use Rattle.std.proofs.Common.{ap, ap₂, arith, take-add, take-take, take_all, length-drop}
use Rattle.std.specs.Str.{bytes_eq}
use Rattle.std.proofs.lemmas.Bool.{not-false, eqb-true, eq-eqb}
use Rattle.std.proofs.lemmas.List.{take-append-drop, take-append-le, drop-append-le}
use Rattle.std.proofs.lemmas.Simd.{length-chunk, length-zip2, mask_l-mod, tops_compared}
use Rattle.std.proofs.lemmas.Slice.Eq.{bytes_eq-Decides}
use lib.Lanes.{chunk, zip2, mask_l, top}

-- ---- no bit of the mask is set

abbrev differs : ℕ → ℕ → Bool
differs x y = not (eqb x y)

unset : (b : Bool) (n : ℕ) → cond b 1 0 + 2 * n ≡ 0 → (b ≡ false) × (n ≡ 0)
unset true n e = absurd (omega arith)
unset false n e = (refl, omega arith)

same_pairs : (xs ys : List ℕ) → length xs ≡ length ys → mask_l (zip2 differs xs ys) ≡ 0 → xs ≡ ys
same_pairs [] [] long none = refl
same_pairs [] (y ∷ ys) long none = absurd (omega (arith, long))
same_pairs (x ∷ xs) [] long none = absurd (omega (arith, long))
same_pairs (x ∷ xs) (y ∷ ys) long none =
    let first = unset (differs x y) (mask_l (zip2 differs xs ys)) none in
    ap₂ (λ (z : ℕ) (zs : List ℕ). z ∷ zs) (eqb-true x y (not-false (eqb x y) first.0)) (same_pairs xs ys (omega (arith, long)) first.1)

pub lanes_same : (left right : List ℕ) (at : ℕ) → at + 16 ≤ length left → at + 16 ≤ length right
    → mask_l (map (top 7) (zip2 (λ (x y : ℕ). cond (not (eqb x y)) 255 0) (chunk at 16 left) (chunk at 16 right))) % 2 ^ 64 ≡ 0
    → take 16 (drop at left) ≡ take 16 (drop at right)
lanes_same left right at in_left in_right none =
    let xs : List ℕ = chunk at 16 left in
    let ys : List ℕ = chunk at 16 right in
    let long : length xs ≡ 16 = length-chunk at 16 left in_left in
    let even : length xs ≡ length ys = long ∙ sym (length-chunk at 16 right in_right) in
    let pairs : length (zip2 differs xs ys) ≡ 16 = length-zip2 differs xs ys even ∙ long in
    same_pairs xs ys even (sym (mask_l-mod (zip2 differs xs ys) 64 (omega (arith, pairs))) ∙ ap (λ m. mask_l m % 2 ^ 64) (sym (tops_compared w8 differs xs ys)) ∙ none)

none_differs : (xs : List ℕ) → mask_l (zip2 differs xs xs) ≡ 0
none_differs [] = refl
none_differs (x ∷ xs) = ap₂ (λ (b : Bool) (n : ℕ). cond b 1 0 + 2 * n) (ap not (eq-eqb x x refl)) (none_differs xs)

pub lanes_unset : (left right : List ℕ) (at : ℕ) → take 16 (drop at left) ≡ take 16 (drop at right)
    → mask_l (map (top 7) (zip2 (λ (x y : ℕ). cond (not (eqb x y)) 255 0) (chunk at 16 left) (chunk at 16 right))) % 2 ^ 64 ≡ 0
lanes_unset left right at same =
    let xs : List ℕ = chunk at 16 left in
    ap (λ ms. mask_l ms % 2 ^ 64) (tops_compared w8 differs xs (chunk at 16 right)) ∙ ap (λ (ys : List ℕ). mask_l (zip2 differs xs ys) % 2 ^ 64) (sym same)
    ∙ ap (λ (n : ℕ). n % 2 ^ 64) (none_differs xs)

-- ---- what is the same so far

pub same_more : (value text : List ℕ) (seen next : ℕ) → take seen value ≡ take seen text → take 16 (drop seen value) ≡ take 16 (drop seen text) → next ≡ seen + 16
    → take next value ≡ take next text
same_more value text seen next so_far more is =
    ap (λ n. take n value) is ∙ take-add seen 16 value ∙ ap₂ (λ (x y : List ℕ). x ++ y) so_far more ∙ sym (take-add seen 16 text) ∙ ap (λ n. take n text) (sym is)

pub same_less : (value text : List ℕ) (seen last : ℕ) → last ≤ seen → take seen value ≡ take seen text → take last value ≡ take last text
same_less value text seen last le so_far = sym (take-take last seen value le) ∙ ap (take last) so_far ∙ take-take last seen text le

-- with the last sixteen bytes, some of which were seen
pub same_all : (value text : List ℕ) (seen last : ℕ) → 16 ≤ length text → last ≡ length text - 16 → last ≤ seen → take seen value ≡ take seen text
    → take 16 (drop last value) ≡ take 16 (drop last text)
    → take (length text) value ≡ text
same_all value text seen last long is overlaps so_far back =
    same_more value text last (length text) (same_less value text seen last overlaps so_far) back (omega (arith, is, long)) ∙ take_all (length text) text (omega arith)

-- each part of a text at the front is the same
pub part_same : (value text : List ℕ) (at : ℕ) → take (length text) value ≡ text → at + 16 ≤ length text → take 16 (drop at value) ≡ take 16 (drop at text)
part_same value text at same fits =
    let rest : List ℕ = drop (length text) value in
    let whole : value ≡ text ++ rest = sym (take-append-drop (length text) value) ∙ ap (λ (w : List ℕ). w ++ rest) same in
    ap (λ (w : List ℕ). take 16 (drop at w)) whole ∙ ap (take 16) (drop-append-le at text rest (omega arith))
    ∙ take-append-le 16 (drop at text) rest (omega (arith, length-drop at text))

-- ---- a few bytes

pub few_same : (value front text : List ℕ) (n : ℕ) → front ≡ take n value → n ≡ length text → bytes_eq front text ≡ true → take (length text) value ≡ text
few_same value front text n is_front size same = ap (λ k. take k value) (sym size) ∙ sym is_front ∙ (bytes_eq-Decides front text).0 same
