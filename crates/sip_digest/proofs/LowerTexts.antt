-- A nonce's text, read from the left, with the word so far.
use Rattle.std.proofs.Common.{◌≡◌, ℕ, zero, suc, ◌+◌, ◌*◌, ◌/◌, ◌%◌, ◌^◌, ◌<◌, ◌-◌, Bool, true, false, cond, List, [], ◌∷◌, ◌++◌, length, take, drop, Option, Some, None}
use Rattle.std.proofs.Common.{refl, sym, ap, ap₂, ◌∙◌, arith, eqb-true, length-drop, take-append-drop}
use Rattle.std.proofs.Math.Nat.{pow-suc, mul_assoc, mul_comm, div-div-eq-div-mul}
use Rattle.std.proofs.lemmas.Bool.{agree_below_at, and_from}
use Rattle.std.proofs.lemmas.Bool.Decides.{nat_tests}
use Rattle.std.specs.Prelude.{◌&&◌, ◌==◌, nat_le, nat_lt, slice_index}
use Rattle.std.specs.List.{list_all}
use Rattle.std.specs.Char.{digit_value}
use Rattle.std.specs.Int.{byte_at, bytes_high_first}
use Rattle.std.specs.Option.{option_and_then, option_map}
use Rattle.std.specs.Str.Parse.{digits_value_after, digits_value}
use Rattle.hex.specs.Hex.{encode_with, encode_lower, lower_digits}
use Rattle.hex.proofs.HexLemmas.{length-encode_with}
use Rattle.sip_digest.specs.HexNumber.{is_hex_digit}
use Rattle.sip_digest.specs.NonceText.{nonce_text, lower_value, read_lower, word_of}
use Rattle.sip_digest.proofs.NonceTexts.{byte_is, two_digits, below, named_by, names_word}

-- ---- one digit

-- the digit of a value
abbrev glyph : ℕ → ℕ
glyph d = cond (nat_lt d 10) (48 + d) (87 + d)

record IsLower (b d : ℕ) : Type 0 where
  digit : is_hex_digit b ≡ true
  value : digit_value b ≡ d
  small : d < 16
  is : b ≡ glyph d

lower_number : (b : ℕ) → (nat_le 48 b && nat_le b 57) ≡ true → IsLower b (b - 48)
lower_number b is = record { digit = grind (arith, nat_tests); value = grind (arith, nat_tests); small = grind (arith, nat_tests); is = grind (arith, nat_tests) }

lower_letter : (b : ℕ) → (nat_le 97 b && nat_le b 102) ≡ true → IsLower b (b - 87)
lower_letter b is = record { digit = grind (arith, nat_tests); value = grind (arith, nat_tests); small = grind (arith, nat_tests); is = grind (arith, nat_tests) }

by_tests : (b d : ℕ) (t u : Bool) → (nat_le 48 b && nat_le b 57) ≡ t → (nat_le 97 b && nat_le b 102) ≡ u → cond t (Some (b - 48)) (cond u (Some (b - 87)) None) ≡ Some d
    → IsLower b d
by_tests b d true u e f g =
    let same : b - 48 ≡ d = cc in
    rw same at (lower_number b e)
by_tests b d false true e f g =
    let same : b - 87 ≡ d = cc in
    rw same at (lower_letter b f)
by_tests b d false false e f g = absurd cc

is_lower : (b d : ℕ) → lower_value b ≡ Some d → IsLower b d
is_lower b d e = by_tests b d (nat_le 48 b && nat_le b 57) (nat_le 97 b && nat_le b 102) refl refl e

is_number : ℕ → Option ℕ → Bool
is_number d None = false
is_number d (Some m) = m == d

number_is : (d : ℕ) (o : Option ℕ) → is_number d o ≡ true → o ≡ Some d
unfolding is_number
number_is d None e = absurd cc
number_is d (Some m) e = ap (λ (k : ℕ). Some k) (eqb-true m d e)

glyph_reads : (d : ℕ) → d < 16 → lower_value (slice_index lower_digits d) ≡ Some d
unfolding is_number
glyph_reads d lt = number_is d (lower_value (slice_index lower_digits d)) (agree_below_at (λ k. is_number k (lower_value (slice_index lower_digits k))) (λ _. true) 16 d
    refl lt)

-- ---- what is read

some_first : (n b : ℕ) (bs : List ℕ) (w : ℕ) (o : Option ℕ) → lower_value b ≡ o → option_and_then (λ d. read_lower (n * 16 + d) bs) o ≡ Some w
    → (d : ℕ) × (lower_value b ≡ Some d) × (read_lower (n * 16 + d) bs ≡ Some w)
some_first n b bs w None is e = absurd cc
some_first n b bs w (Some d) is e = (d, is, e)

all_hex : (n : ℕ) (bs : List ℕ) (w : ℕ) → read_lower n bs ≡ Some w → list_all is_hex_digit bs ≡ true
all_hex n [] w e = refl
all_hex n (b ∷ bs) w e =
    let first = some_first n b bs w (lower_value b) refl e in
    and_from _ _ (is_lower b first.0 first.1).digit (all_hex (n * 16 + first.0) bs w first.2)

value_is : (n : ℕ) (bs : List ℕ) (w : ℕ) → read_lower n bs ≡ Some w → digits_value_after 16 n bs ≡ w
value_is n [] w e = cc
value_is n (b ∷ bs) w e =
    let first = some_first n b bs w (lower_value b) refl e in
    ap (λ (v : ℕ). digits_value_after 16 (n * 16 + v) bs) (is_lower b first.0 first.1).value ∙ value_is (n * 16 + first.0) bs w first.2

both_parts : (n m d e : ℕ) → d < 16 → e < 16 → n * 16 + d ≡ m * 16 + e → (n ≡ m) × (d ≡ e)
both_parts n m d e small tiny is = (omega arith, omega arith)

-- two texts of one length that name the same word are one
one_text : (xs ys : List ℕ) (n m w : ℕ) → length xs ≡ length ys → read_lower n xs ≡ Some w → read_lower m ys ≡ Some w → (n ≡ m) × (xs ≡ ys)
one_text [] [] n m w long e f = (cc, refl)
one_text [] (y ∷ ys) n m w long e f = absurd (omega arith)
one_text (x ∷ xs) [] n m w long e f = absurd (omega arith)
one_text (x ∷ xs) (y ∷ ys) n m w long e f =
    let a = some_first n x xs w (lower_value x) refl e in
    let b = some_first m y ys w (lower_value y) refl f in
    let p = is_lower x a.0 a.1 in
    let q = is_lower y b.0 b.1 in
    let rest = one_text xs ys (n * 16 + a.0) (m * 16 + b.0) w (omega arith) a.2 b.2 in
    let both = both_parts n m a.0 b.0 p.small q.small rest.0 in
    let same : x ≡ y = p.is ∙ ap glyph both.1 ∙ sym q.is in
    (both.0, ap (λ (k : ℕ). k ∷ xs) same ∙ ap (λ (ks : List ℕ). y ∷ ks) rest.1)

-- ---- the text of a word reads as it

two_read : (n high low : ℕ) (rest : List ℕ) → high < 16 → low < 16
    → read_lower n (slice_index lower_digits high ∷ slice_index lower_digits low ∷ rest) ≡ read_lower ((n * 16 + high) * 16 + low) rest
two_read n high low rest small tiny = rw (glyph_reads high small, glyph_reads low tiny) refl

step : (k n : ℕ) → (n / 256 ^ suc k * 16 + byte_at k n / 16) * 16 + byte_at k n % 16 ≡ n / 256 ^ k
step k n =
    let above : n / 256 ^ suc k ≡ n / 256 ^ k / 256 = ap (λ (v : ℕ). n / v) (pow-suc 256 k) ∙ sym (div-div-eq-div-mul n (256 ^ k) 256) in
    rw above (two_digits (n / 256 ^ k) (byte_at k n / 16) (byte_at k n % 16) (ap (λ (b : ℕ). b / 16) (byte_is k n)) (ap (λ (b : ℕ). b % 16) (byte_is k n)))

low_byte : (k n : ℕ) → byte_at k n < 256
low_byte k n = let e = byte_is k n in omega (arith, e)

reads_back : (k n : ℕ) → read_lower (n / 256 ^ k) (encode_lower (bytes_high_first k n)) ≡ Some n
unfolding encode_with
reads_back zero n = ap (λ (v : ℕ). Some v) (omega arith)
reads_back (suc k) n =
    let less = low_byte k n in
    two_read (n / 256 ^ suc k) (byte_at k n / 16) (byte_at k n % 16) (encode_lower (bytes_high_first k n)) (omega arith) (omega arith)
    ∙ ap (λ (v : ℕ). read_lower v (encode_lower (bytes_high_first k n))) (step k n) ∙ reads_back k n

word_reads : (word : ℕ) → word < 2 ^ 128 → read_lower 0 (nonce_text word) ≡ Some word
unfolding nonce_text
word_reads word lt = (let none : word / 256 ^ 16 ≡ 0 = omega arith in rw none at (reads_back 16 word))

sized : (word : ℕ) → length (nonce_text word) ≡ 32
unfolding nonce_text
sized word = length-encode_with lower_digits (bytes_high_first 16 word)

-- ---- both ways

by_read : (text : List ℕ) (o p : Option ℕ) → length text ≡ 32 → read_lower 0 text ≡ o → word_of text ≡ p → p ≡ o
by_read text (Some word) p long e f =
    let digits : list_all is_hex_digit text ≡ true = all_hex 0 text word e in
    let number : digits_value 16 text ≡ word = value_is 0 text word e in
    let lt : word < 1 * 16 ^ 32 = rw (number, long) at (below 0 text digits) in
    let small : word < 2 ^ 128 = omega (arith, lt) in
    let same : nonce_text word ≡ text = (one_text (nonce_text word) text 0 0 word (sized word ∙ sym long) (word_reads word small) e).1 in
    sym f ∙ named_by text word (record { sized = long; digits = digits; number = number; same = same })
by_read text None (Some word) long e f =
    let got = (names_word text word).0 f in
    let read : read_lower 0 text ≡ Some word = ap (read_lower 0) got.1 ∙ word_reads word got.0 in
    absurd cc
by_read text None None long e f = refl

pub word_is : (text : List ℕ) → length text ≡ 32 → read_lower 0 text ≡ word_of text
word_is text long = sym (by_read text (read_lower 0 text) (word_of text) long refl refl)

-- ---- a text in two halves

-- the next digit, if it is one
by_first : (n : ℕ) (xs ys : List ℕ) → ((d : ℕ) → read_lower (n * 16 + d) (xs ++ ys) ≡ option_and_then (λ m. read_lower m ys) (read_lower (n * 16 + d) xs))
    → (o : Option ℕ)
    → option_and_then (λ d. read_lower (n * 16 + d) (xs ++ ys)) o ≡ option_and_then (λ m. read_lower m ys) (option_and_then (λ d. read_lower (n * 16 + d) xs) o)
by_first n xs ys rest None = refl
by_first n xs ys rest (Some d) = rest d

read_both : (n : ℕ) (xs ys : List ℕ) → read_lower n (xs ++ ys) ≡ option_and_then (λ m. read_lower m ys) (read_lower n xs)
read_both n [] ys = refl
read_both n (x ∷ xs) ys = by_first n xs ys (λ d. read_both (n * 16 + d) xs ys) (lower_value x)

more_weight : (p k q : ℕ) → p * 16 ^ suc k ≡ q → p * 16 * 16 ^ k ≡ q
more_weight p k q e = mul_assoc p 16 (16 ^ k) ∙ ap (λ v. p * v) (mul_comm 16 (16 ^ k) ∙ sym (pow-suc 16 k)) ∙ e

more_front : (h p n d : ℕ) → (h * p + n) * 16 + d ≡ h * (p * 16) + (n * 16 + d)
more_front h p n d = let e : h * (p * 16) ≡ h * p * 16 = sym (mul_assoc h p 16) in omega (arith, e)

by_digit : (h p n q : ℕ) (bs : List ℕ) → ((d : ℕ) → read_lower ((h * p + n) * 16 + d) bs ≡ option_map (λ v. h * q + v) (read_lower (n * 16 + d) bs)) → (o : Option ℕ)
    → option_and_then (λ d. read_lower ((h * p + n) * 16 + d) bs) o ≡ option_map (λ v. h * q + v) (option_and_then (λ d. read_lower (n * 16 + d) bs) o)
by_digit h p n q bs rest None = refl
by_digit h p n q bs rest (Some d) = rest d

-- what is read behind a front is what the digits write, and the front times what they count
read_behind : (h p n q : ℕ) (bs : List ℕ) → p * 16 ^ length bs ≡ q → read_lower (h * p + n) bs ≡ option_map (λ v. h * q + v) (read_lower n bs)
read_behind h p n q [] e = let same : p ≡ q = omega (arith, e) in ap (λ v. Some (h * v + n)) same
read_behind h p n q (b ∷ bs) e =
    by_digit h p n q bs (λ d. ap (λ v. read_lower v bs) (more_front h p n d) ∙ read_behind h (p * 16) (n * 16 + d) q bs (more_weight p (length bs) q e)) (lower_value b)

behind_half : (high : ℕ) (bs : List ℕ) → length bs ≡ 16 → read_lower high bs ≡ option_map (λ v. high * 2 ^ 64 + v) (read_lower 0 bs)
behind_half high bs long =
    let weight : 1 * 16 ^ length bs ≡ 2 ^ 64 = ap (λ k. 1 * 16 ^ k) long in
    let same : high ≡ high * 1 + 0 = omega arith in
    ap (λ v. read_lower v bs) same ∙ read_behind high 1 0 (2 ^ 64) bs weight

-- the word of a text, by its halves
pub by_halves : (text front back : List ℕ) → length text ≡ 32 → front ≡ take 16 text → back ≡ drop 16 text
    → word_of text ≡ option_and_then (λ high. option_map (λ low. high * 2 ^ 64 + low) (read_lower 0 back)) (read_lower 0 front)
by_halves text front back long at_front at_back =
    let cut : text ≡ front ++ back = sym (take-append-drop 16 text) ∙ ap₂ (λ (l m : List ℕ). l ++ m) (sym at_front) (sym at_back) in
    let size : length back ≡ 16 = ap length at_back ∙ length-drop 16 text ∙ omega (arith, long) in
    sym (word_is text long) ∙ ap (read_lower 0) cut ∙ read_both 0 front back ∙ by_high back size (read_lower 0 front)
  where
    by_high : (bs : List ℕ) → length bs ≡ 16 → (o : Option ℕ) → option_and_then (λ high. read_lower high bs) o
        ≡ option_and_then (λ high. option_map (λ low. high * 2 ^ 64 + low) (read_lower 0 bs)) o
    by_high bs is None = refl
    by_high bs is (Some high) = behind_half high bs is
