-- Sixteen digits in lower case, each in a lane.
use Rattle.std.proofs.Common.{◌≡◌, ℕ, ltb, zero, suc, ◌+◌, ◌*◌, ◌-◌, ◌/◌, ◌%◌, ◌^◌, ◌<◌, Bool, true, false, cond, not, ◌||◌, List, [], ◌∷◌, ◌++◌, length, map, get_or}
use Rattle.std.proofs.Common.{replicate, Option, Some, None, refl, sym, ap, ap₂, ◌∙◌, subst, arith}
use Rattle.std.proofs.lemmas.Bool.{agree_below, agree_below_at, and_parts, eqb-true, ltb-true}
use Rattle.std.proofs.lemmas.Simd.{Each1-get_or, map-map, mask_l-mod, pick_l_left, pick_l_whole}
use Rattle.std.proofs.lemmas.List.{length-map}
use Rattle.std.specs.Prelude.{◌&&◌, ◌==◌, nat_le, nat_lt, slice_index}
use Rattle.std.specs.Int.{w64, w128, byte_at, from_be_bytes, to_be_bytes}
use Rattle.hex.specs.Hex.{encode_with, lower_digits}
use Rattle.std.specs.Option.{option_and_then}
use lib.Lanes.{Each1, pick_l, sel_l, zip2, mask_l, top}
use Rattle.sip_digest.specs.NonceText.{AreLower, HasDigits, join, lane_digit, lane_value, lower_value, nonce_text, read_lower}
use Rattle.sip_digest.proofs.NonceTexts.{byte_is}

-- ---- what is computed lane by lane

pub zipped : (h : ℕ → ℕ → ℕ) (f g : ℕ → ℕ) (v : List ℕ) {a b : List ℕ} → a ≡ map f v → b ≡ map g v → zip2 h a b ≡ map (λ x. h (f x) (g x)) v
zipped h f g v p q = ap₂ (zip2 h) p q ∙ of_maps v
  where
    of_maps : (xs : List ℕ) → zip2 h (map f xs) (map g xs) ≡ map (λ x. h (f x) (g x)) xs
    of_maps [] = refl
    of_maps (x ∷ xs) = ap (λ r. h (f x) (g x) ∷ r) (of_maps xs)

pub splat_is : (v : List ℕ) (n y : ℕ) → length v ≡ n → replicate n y ≡ map (λ _. y) v
splat_is [] n y e = ap (λ k. replicate k y) (sym e)
splat_is (x ∷ xs) n y e = ap (λ k. replicate k y) (sym e) ∙ ap (λ r. y ∷ r) (splat_is xs (length xs) y refl)

pub chosen : (p : ℕ → Bool) (f g : ℕ → ℕ) (v : List ℕ) {ms : List Bool} {a b : List ℕ} → ms ≡ map p v → a ≡ map f v → b ≡ map g v
    → sel_l ms a b ≡ map (λ x. cond (p x) (f x) (g x)) v
chosen p f g v {ms} {a} {b} m p₁ q = (λ i. sel_l (m i) (p₁ i) (q i)) ∙ of_maps v
  where
    of_maps : (xs : List ℕ) → sel_l (map p xs) (map f xs) (map g xs) ≡ map (λ x. cond (p x) (f x) (g x)) xs
    of_maps [] = refl
    of_maps (x ∷ xs) = ap (λ r. cond (p x) (f x) (g x) ∷ r) (of_maps xs)

-- two functions that agree on bytes
pub map_bytes : {X : Type 0} (f g : ℕ → X) (v : List ℕ) → ((b : ℕ) → b < 256 → f b ≡ g b) → Each1 (λ b. b < 256) v → map f v ≡ map g v
map_bytes f g [] same h = refl
map_bytes f g (x ∷ xs) same h = ap₂ (λ y ys. y ∷ ys) (same x h.0) (map_bytes f g xs same h.1)

-- ---- what the digits say

is_none : Option ℕ → Bool
is_none None = true
is_none (Some d) = false

-- a byte is no digit in lower case
abbrev pub is_wrong : ℕ → Bool
is_wrong b = not (nat_le 48 b && nat_le b 57) && not (nat_le 97 b && nat_le b 102)

wrong_by : (b : ℕ) (s t : Bool) → s ≡ (nat_le 48 b && nat_le b 57) → t ≡ (nat_le 97 b && nat_le b 102) → (not s && not t) ≡ true
    → cond s (Some (b - 48)) (cond t (Some (b - 87)) None) ≡ None
wrong_by b true t e f h = absurd cc
wrong_by b false true e f h = absurd cc
wrong_by b false false e f h = refl

no_digit : (b : ℕ) → is_wrong b ≡ true → lower_value b ≡ None
no_digit b h = wrong_by b (nat_le 48 b && nat_le b 57) (nat_le 97 b && nat_le b 102) refl refl h

is_digit : ℕ → Option ℕ → Bool
is_digit d None = false
is_digit d (Some m) = (m == d) && nat_lt d 16

digit_is : (d : ℕ) (o : Option ℕ) → is_digit d o ≡ true → (o ≡ Some d) × (d < 16)
unfolding is_digit
digit_is d None e = absurd cc
digit_is d (Some m) e = let both = and_parts (m == d) (nat_lt d 16) e in (ap (λ (k : ℕ). Some k) (eqb-true m d both.0), omega (arith, ltb-true d 16 both.1))

some_digit : (b : ℕ) → b < 256 → is_wrong b ≡ false → (lower_value b ≡ Some (lane_value b)) × (lane_value b < 16)
unfolding is_digit
some_digit b lt h =
    digit_is (lane_value b) (lower_value b)
    (sym (ap (λ w. w || is_digit (lane_value b) (lower_value b)) h) ∙ agree_below_at (λ k. is_wrong k || is_digit (lane_value k) (lower_value k)) (λ _. true) 256 b refl
    lt)

-- the bit of a lane, and those behind it
bit_set : (b : Bool) (n : ℕ) → cond b 1 0 + 2 * n ≡ 0 → (b ≡ false) × (n ≡ 0)
bit_set true n e = absurd (omega (arith, e))
bit_set false n e = (refl, omega (arith, e))

read_right : (n : ℕ) (v : List ℕ) → Each1 (λ b. b < 256) v → mask_l (map is_wrong v) ≡ 0
    → (read_lower n v ≡ Some (join n (map lane_value v))) × Each1 (λ d. d < 16) (map lane_value v)
read_right n [] h none = (refl, tt)
read_right n (b ∷ bs) h none =
    let bits = bit_set (is_wrong b) (mask_l (map is_wrong bs)) none in
    let digit = some_digit b h.0 bits.0 in
    let rest = read_right (n * 16 + lane_value b) bs h.1 bits.1 in
    (ap (option_and_then (λ d. read_lower (n * 16 + d) bs)) digit.0 ∙ rest.0, (digit.1, rest.1))

none_behind : (n : ℕ) (bs : List ℕ) → ((m : ℕ) → read_lower m bs ≡ None) → (o : Option ℕ) → option_and_then (λ d. read_lower (n * 16 + d) bs) o ≡ None
none_behind n bs h None = refl
none_behind n bs h (Some d) = h (n * 16 + d)

read_wrong : (v : List ℕ) → 0 < mask_l (map is_wrong v) → (n : ℕ) → read_lower n v ≡ None
read_wrong [] some n = absurd (omega (arith, some))
read_wrong (b ∷ bs) some n = by_first (λ more. read_wrong bs more) (is_wrong b) refl
  where
    by_first : (0 < mask_l (map is_wrong bs) → (m : ℕ) → read_lower m bs ≡ None) → (w : Bool) → is_wrong b ≡ w → read_lower n (b ∷ bs) ≡ None
    by_first rest true e = ap (option_and_then (λ d. read_lower (n * 16 + d) bs)) (no_digit b e)
    by_first rest false e =
        let behind : 0 < cond false 1 0 + 2 * mask_l (map is_wrong bs) = subst (λ (w : Bool). 0 < cond w 1 0 + 2 * mask_l (map is_wrong bs)) e some in
        none_behind n bs (rest (omega (arith, behind))) (lower_value b)

-- ---- a half, by what was seen of its lanes

positive : (k : ℕ) → (k == 0) ≡ false → 0 < k
positive zero e = absurd cc
positive (suc k) e = omega arith

bits_of : (f : ℕ → ℕ) (v : List ℕ) {z : List ℕ} → z ≡ map f v → length v ≡ 16 → mask_l (map (top 7) z) % 2 ^ 64 ≡ mask_l (map (λ x. top 7 (f x)) v)
bits_of f v lanes long =
    ap (λ l. mask_l l % 2 ^ 64) (ap (map (top 7)) lanes ∙ map-map (top 7) f v) ∙ mask_l-mod (map (λ x. top 7 (f x)) v) 64
    (omega (arith, length-map v (λ x. top 7 (f x)), long))

-- the bits of those that are no digits
pub wrong_bits : (f : ℕ → ℕ) (v digits : List ℕ) {z : List ℕ} → z ≡ map f v → v ≡ digits → length v ≡ 16 → Each1 (λ b. b < 256) v
    → agree_below (λ x. top 7 (f x)) is_wrong 256 ≡ true
    → mask_l (map (top 7) z) % 2 ^ 64 ≡ mask_l (map is_wrong digits)
wrong_bits f v digits lanes whole long fits agree =
    bits_of f v lanes long ∙ ap mask_l (map_bytes (λ x. top 7 (f x)) is_wrong v (λ b lt. agree_below_at (λ x. top 7 (f x)) is_wrong 256 b agree lt) fits)
    ∙ ap (λ l. mask_l (map is_wrong l)) whole

pub all_right : (digits : List ℕ) (mask : ℕ) → Each1 (λ b. b < 256) digits → length digits ≡ 16 → (mask == 0) ≡ true → mask ≡ mask_l (map is_wrong digits)
    → AreLower digits
all_right digits mask fits long none is =
    let got = read_right 0 digits fits (sym is ∙ eqb-true mask 0 none) in
    record { values = record { size = length-map digits lane_value ∙ long; small = got.1 }; read = got.0 }

pub one_wrong : (digits : List ℕ) (mask : ℕ) → (mask == 0) ≡ false → mask ≡ mask_l (map is_wrong digits) → read_lower 0 digits ≡ None
one_wrong digits mask some is = read_wrong digits (omega (arith, is, positive mask some)) 0

-- the values that were chosen
pub values_are : (f : ℕ → ℕ) (v digits : List ℕ) {z : List ℕ} → z ≡ map f v → v ≡ digits → Each1 (λ b. b < 256) v
    → agree_below (λ k. f k == lane_value k) (λ _. true) 256 ≡ true → z ≡ map lane_value digits
values_are f v digits lanes whole fits agree =
    lanes ∙ map_bytes f lane_value v (λ b lt. eqb-true (f b) (lane_value b) (agree_below_at (λ k. f k == lane_value k) (λ _. true) 256 b agree lt)) fits
    ∙ ap (map lane_value) whole

pub half_is : (v values : List ℕ) (half : ℕ) → AreLower v → values ≡ map lane_value v → half ≡ join 0 values → Some half ≡ read_lower 0 v
half_is v values half are same is = ap (λ (k : ℕ). Some k) (is ∙ ap (join 0) same) ∙ sym are.read

pub half_has : (v values : List ℕ) → AreLower v → values ≡ map lane_value v → HasDigits values
half_has v values are same = subst HasDigits (sym same) are.values

-- ---- two digits in a byte, and eight bytes in a number

pub pair_is : (a b : ℕ) → a < 16 → b < 16 → (a * 16 % 256 + b) % 256 ≡ a * 16 + b
pair_is a b small tiny = omega (arith, small, tiny)

pub eight : (a b c d e f g h i j k l m n o p : ℕ)
    → from_be_bytes w64 ((a * 16 + b) ∷ (c * 16 + d) ∷ (e * 16 + f) ∷ (g * 16 + h) ∷ (i * 16 + j) ∷ (k * 16 + l) ∷ (m * 16 + n) ∷ (o * 16 + p) ∷ [])
    ≡ join 0 (a ∷ b ∷ c ∷ d ∷ e ∷ f ∷ g ∷ h ∷ i ∷ j ∷ k ∷ l ∷ m ∷ n ∷ o ∷ p ∷ [])
eight a b c d e f g h i j k l m n o p = omega arith

-- the number of sixteen digits, each pair of which is joined in a byte
pub joins : (values : List ℕ) → HasDigits values
    → from_be_bytes w64 (zip2 (λ (x y : ℕ). (x + y) % 256) (zip2 (λ (x y : ℕ). x * y % 256) (pick_l 0 (values ++ values) (0 ∷ 2 ∷ 4 ∷ 6 ∷ 8 ∷ 10 ∷ 12 ∷ 14 ∷ []))
    (replicate 8 16))
    (pick_l 0 (values ++ values) (1 ∷ 3 ∷ 5 ∷ 7 ∷ 9 ∷ 11 ∷ 13 ∷ 15 ∷ [])))
    ≡ join 0 values
joins values h =
    let size : length values ≡ 16 = h.size in
    let at : ℕ → ℕ = λ i. get_or values i 0 in
    let small : (i : ℕ) → i < 16 → get_or values i 0 < 16 = λ i lt. Each1-get_or (λ (v : ℕ). v < 16) values i 0 (omega (arith, size, lt)) h.small in
    let high = pick_l_left 0 values values 16 (0 ∷ 2 ∷ 4 ∷ 6 ∷ 8 ∷ 10 ∷ 12 ∷ 14 ∷ []) size tt in
    let low = pick_l_left 0 values values 16 (1 ∷ 3 ∷ 5 ∷ 7 ∷ 9 ∷ 11 ∷ 13 ∷ 15 ∷ []) size tt in
    let pair : (i j : ℕ) → i < 16 → j < 16 → (get_or values i 0 * 16 % 256 + get_or values j 0) % 256 ≡ get_or values i 0 * 16 + get_or values j 0 =
    λ i j a b. pair_is (get_or values i 0) (get_or values j 0) (small i a) (small j b) in
    (λ t. from_be_bytes w64 (zip2 (λ (x y : ℕ). (x + y) % 256) (zip2 (λ (x y : ℕ). x * y % 256) (high t) (replicate 8 16)) (low t)))
    ∙ (λ t. from_be_bytes w64 (pair 0 1 (omega arith) (omega arith) t ∷ pair 2 3 (omega arith) (omega arith) t ∷ pair 4 5 (omega arith) (omega arith) t
    ∷ pair 6 7 (omega arith) (omega arith) t
    ∷ pair 8 9 (omega arith) (omega arith) t ∷ pair 10 11 (omega arith) (omega arith) t ∷ pair 12 13 (omega arith) (omega arith) t
    ∷ pair 14 15 (omega arith) (omega arith) t ∷ []))
    ∙ eight (at 0) (at 1) (at 2) (at 3) (at 4) (at 5) (at 6) (at 7) (at 8) (at 9) (at 10) (at 11) (at 12) (at 13) (at 14) (at 15)
    ∙ ap (join 0) (pick_l_whole 0 values 16 size)

-- ---- the text of a word

top_of : (b : Bool) → top 7 (cond b 255 0) ≡ b
top_of true = refl
top_of false = refl

-- the digits that were chosen
pub digits_are : (v : List ℕ) {z : List ℕ} → z ≡ map (λ x. cond (top 7 (cond (ltb x 10) 255 0)) ((x + 48) % 256) ((x + 87) % 256)) v → z ≡ map lane_digit v
digits_are v is = is ∙ each v
  where
    each : (xs : List ℕ) → map (λ x. cond (top 7 (cond (ltb x 10) 255 0)) ((x + 48) % 256) ((x + 87) % 256)) xs ≡ map lane_digit xs
    each [] = refl
    each (x ∷ xs) = ap₂ (λ y ys. y ∷ ys) (ap (λ b. cond b ((x + 48) % 256) ((x + 87) % 256)) (top_of (ltb x 10))) (each xs)

low_byte : (k n : ℕ) → byte_at k n < 256
low_byte k n = let e = byte_is k n in omega (arith, e)

pub text_is : (f g : ℕ → ℕ → ℕ) (word : ℕ) (bytes text : List ℕ)
    → text ≡ map lane_digit (pick_l 0 (zip2 f bytes (replicate 16 4) ++ zip2 g bytes (replicate 16 15))
    (0 ∷ 16 ∷ 1 ∷ 17 ∷ 2 ∷ 18 ∷ 3 ∷ 19 ∷ 4 ∷ 20 ∷ 5 ∷ 21 ∷ 6 ∷ 22 ∷ 7 ∷ 23 ∷ 8 ∷ 24 ∷ 9 ∷ 25 ∷ 10 ∷ 26 ∷ 11 ∷ 27 ∷ 12 ∷ 28 ∷ 13 ∷ 29 ∷ 14 ∷ 30 ∷ 15 ∷ 31 ∷ []))
    → bytes ≡ to_be_bytes w128 word → agree_below (λ b. lane_digit (f b 4) == slice_index lower_digits (b / 16)) (λ _. true) 256 ≡ true
    → agree_below (λ b. lane_digit (g b 15) == slice_index lower_digits (b % 16)) (λ _. true) 256 ≡ true → text ≡ nonce_text word
unfolding nonce_text encode_with
text_is f g word bytes text is are above below =
    let high : (k : ℕ) → lane_digit (f (byte_at k word) 4) ≡ slice_index lower_digits (byte_at k word / 16) =
    λ k. eqb-true (lane_digit (f (byte_at k word) 4)) (slice_index lower_digits (byte_at k word / 16))
    (agree_below_at (λ b. lane_digit (f b 4) == slice_index lower_digits (b / 16)) (λ _. true) 256 (byte_at k word) above (low_byte k word)) in
    let low : (k : ℕ) → lane_digit (g (byte_at k word) 15) ≡ slice_index lower_digits (byte_at k word % 16) =
    λ k. eqb-true (lane_digit (g (byte_at k word) 15)) (slice_index lower_digits (byte_at k word % 16))
    (agree_below_at (λ b. lane_digit (g b 15) == slice_index lower_digits (b % 16)) (λ _. true) 256 (byte_at k word) below (low_byte k word)) in
    is ∙ ap (λ bs. map lane_digit (pick_l 0 (zip2 f bs (replicate 16 4) ++ zip2 g bs (replicate 16 15))
    (0 ∷ 16 ∷ 1 ∷ 17 ∷ 2 ∷ 18 ∷ 3 ∷ 19 ∷ 4 ∷ 20 ∷ 5 ∷ 21 ∷ 6 ∷ 22 ∷ 7 ∷ 23 ∷ 8 ∷ 24 ∷ 9 ∷ 25 ∷ 10 ∷ 26 ∷ 11 ∷ 27 ∷ 12 ∷ 28 ∷ 13 ∷ 29 ∷ 14 ∷ 30 ∷ 15 ∷ 31 ∷ []))) are
    ∙ (λ t. high 15 t ∷ low 15 t ∷ high 14 t ∷ low 14 t ∷ high 13 t ∷ low 13 t ∷ high 12 t ∷ low 12 t ∷ high 11 t ∷ low 11 t ∷ high 10 t ∷ low 10 t ∷ high 9 t ∷ low 9 t
    ∷ high 8 t ∷ low 8 t ∷ high 7 t ∷ low 7 t ∷ high 6 t ∷ low 6 t ∷ high 5 t ∷ low 5 t ∷ high 4 t ∷ low 4 t ∷ high 3 t ∷ low 3 t ∷ high 2 t ∷ low 2 t ∷ high 1 t
    ∷ low 1 t ∷ high 0 t ∷ low 0 t ∷ [])
