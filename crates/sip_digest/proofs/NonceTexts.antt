-- A nonce's text reads as its word.
use Rattle.std.proofs.Common.{◌≡◌, ℕ, zero, suc, ◌+◌, ◌*◌, ◌/◌, ◌%◌, ◌^◌, ◌<◌, Bool, true, false, cond, List, [], ◌∷◌, length, ◌↔◌, ◌≤◌, Some, None, refl, sym, ap, ◌∙◌}
use Rattle.std.proofs.Common.{arith, eq-eqb, eqb-true, inl, inr}
use Rattle.std.proofs.Math.Nat.{pow-suc, mul-le-mul_right, mul_assoc, mul_comm, le_trans, div-div-eq-div-mul}
use Rattle.std.proofs.lemmas.Option.{cond_some}
use Rattle.std.proofs.lemmas.Slice.Eq.{bytes_eq-Decides}
use Rattle.std.proofs.lemmas.Bool.{and_parts, cases_lt, ltb-true}
use Rattle.std.proofs.lemmas.Bool.Decides.{nat_tests}
use Rattle.std.specs.Prelude.{◌&&◌, ◌==◌, slice_index}
use Rattle.std.specs.List.{list_all}
use Rattle.std.specs.Char.{digit_value}
use Rattle.std.specs.Int.{byte_at, bytes_high_first}
use Rattle.std.specs.Option.{option_and_then}
use Rattle.std.specs.Str.{bytes_eq}
use Rattle.std.specs.Str.Parse.{digits_value_after, digits_value}
use Rattle.hex.specs.Hex.{encode_with, encode_lower, lower_digits}
use Rattle.hex.proofs.HexLemmas.{length-encode_with}
use Rattle.sip_digest.specs.HexNumber.{is_hex_digit}
use Rattle.sip_digest.specs.NonceText.{nonce_text, named, word_of}

-- ---- what a text is that names a word

pub record Names (text : List ℕ) (word : ℕ) : Type 0 where
  pub sized : length text ≡ 32
  pub digits : list_all is_hex_digit text ≡ true
  pub number : digits_value 16 text ≡ word
  pub same : nonce_text word ≡ text

parts : (sized digits : Bool) (number : ℕ) (text : List ℕ) (word : ℕ) → cond sized (option_and_then (named text) (cond digits (Some number) None)) None ≡ Some word
    → (sized ≡ true) × (digits ≡ true) × (number ≡ word) × (nonce_text word ≡ text)
parts false digits number text word e = absurd cc
parts true false number text word e = absurd cc
parts true true number text word e =
    let got = cond_some (bytes_eq (nonce_text number) text) number word e in
    (refl, refl, got.1, rw (← got.1) ((bytes_eq-Decides (nonce_text number) text).0 got.0))

pub names : (text : List ℕ) (word : ℕ) → word_of text ≡ Some word → Names text word
names text word e =
    let got = parts (length text == 32) (list_all is_hex_digit text) (digits_value 16 text) text word e in
    record { sized = eqb-true (length text) 32 got.0; digits = got.1; number = got.2; same = got.3 }

joined : (sized digits : Bool) (text : List ℕ) (number : ℕ) → sized ≡ true → digits ≡ true → bytes_eq (nonce_text number) text ≡ true
    → cond sized (option_and_then (named text) (cond digits (Some number) None)) None ≡ Some number
joined sized digits text number e f g = rw (e, f, g) refl

pub named_by : (text : List ℕ) (word : ℕ) → Names text word → word_of text ≡ Some word
named_by text word n =
    let whole : word_of text ≡ Some (digits_value 16 text) =
    joined (length text == 32) (list_all is_hex_digit text) text (digits_value 16 text)
    (eq-eqb (length text) 32 n.sized) n.digits
    (let same : nonce_text (digits_value 16 text) ≡ text = rw n.number n.same in (bytes_eq-Decides (nonce_text (digits_value 16 text)) text).1 same) in
    whole ∙ ap Some n.number

-- ---- the digits of a byte

reads : ℕ → Bool
reads d = digit_value (slice_index lower_digits d) == d

-- the first n digits read as what they stand for
all_read : ℕ → Bool
all_read zero = true
all_read (suc n) = reads n && all_read n

read_at : (n d : ℕ) → all_read n ≡ true → d < n → reads d ≡ true
unfolding all_read
read_at zero d all lt = absurd (omega arith)
read_at (suc n) d all lt =
    let both = and_parts (reads n) (all_read n) all in
    elim (cases_lt d n) [
      | inl below ↦ read_at n d both.1 below
      | inr top ↦ let e : d ≡ n = omega arith in rw e both.0
    ]

digit_reads : (d : ℕ) → d < 16 → digit_value (slice_index lower_digits d) ≡ d
unfolding all_read reads
digit_reads d lt = eqb-true (digit_value (slice_index lower_digits d)) d (read_at 16 d refl lt)

pub byte_is : (k n : ℕ) → byte_at k n ≡ n / 256 ^ k % 256
byte_is zero n = omega arith
byte_is (suc k) n = refl

-- a byte is the next two digits
pub two_digits : (q high low : ℕ) → high ≡ q % 256 / 16 → low ≡ q % 256 % 16 → (q / 256 * 16 + high) * 16 + low ≡ q
two_digits q high low e f = omega arith

step : (k n : ℕ) → (n / 256 ^ suc k * 16 + digit_value (slice_index lower_digits (byte_at k n / 16))) * 16 + digit_value (slice_index lower_digits (byte_at k n % 16))
    ≡ n / 256 ^ k
step k n =
    let above : n / 256 ^ suc k ≡ n / 256 ^ k / 256 = ap (λ (v : ℕ). n / v) (pow-suc 256 k) ∙ sym (div-div-eq-div-mul n (256 ^ k) 256) in
    let high : digit_value (slice_index lower_digits (byte_at k n / 16)) ≡ n / 256 ^ k % 256 / 16 = rw (byte_is k n) (digit_reads _ (omega arith)) in
    let low : digit_value (slice_index lower_digits (byte_at k n % 16)) ≡ n / 256 ^ k % 256 % 16 = rw (byte_is k n) (digit_reads _ (omega arith)) in
    rw above (two_digits (n / 256 ^ k) _ _ high low)

-- the bytes of a number read as it, behind the bytes above them
reads_back : (k n : ℕ) → digits_value_after 16 (n / 256 ^ k) (encode_lower (bytes_high_first k n)) ≡ n
unfolding encode_with
reads_back zero n = omega arith
reads_back (suc k) n = ap (λ (v : ℕ). digits_value_after 16 v (encode_lower (bytes_high_first k n))) (step k n) ∙ reads_back k n

is_digit_at : (d : ℕ) → d < 16 → is_hex_digit (slice_index lower_digits d) ≡ true
is_digit_at d lt = let e = digit_reads d lt in rw e (grind (arith, nat_tests))

all_digits : (k n : ℕ) → list_all is_hex_digit (encode_lower (bytes_high_first k n)) ≡ true
unfolding encode_with
all_digits zero n = refl
all_digits (suc k) n =
    rw (byte_is k n, is_digit_at (n / 256 ^ k % 256 / 16) (omega arith), is_digit_at (n / 256 ^ k % 256 % 16) (omega arith)) (all_digits k n)

-- ---- both ways

pub word_reads : (word : ℕ) → word < 2 ^ 128 → Names (nonce_text word) word
unfolding nonce_text
word_reads word lt = record {
  sized = length-encode_with lower_digits (bytes_high_first 16 word);
  digits = all_digits 16 word;
  number = (let none : word / 256 ^ 16 ≡ 0 = omega arith in rw none at (reads_back 16 word));
  same = refl;
}

-- a number is below the power of its digits' count
pub below : (n : ℕ) (bs : List ℕ) → list_all is_hex_digit bs ≡ true → digits_value_after 16 n bs < (n + 1) * 16 ^ length bs
below n [] all = omega arith
below n (b ∷ bs) all =
    let both = and_parts (is_hex_digit b) (list_all is_hex_digit bs) all in
    let small : digit_value b < 16 = ltb-true _ _ both.0 in
    let rest = below (n * 16 + digit_value b) bs both.1 in
    let e : 16 ^ suc (length bs) ≡ 16 ^ length bs * 16 = pow-suc 16 (length bs) in
    bound n (digit_value b) (16 ^ length bs) _ _ small rest e
  where
    bound : (n d p q v : ℕ) → d < 16 → v < (n * 16 + d + 1) * p → q ≡ p * 16 → v < (n + 1) * q
    bound n d p q v small lt e =
        let le : (n * 16 + d + 1) * p ≤ ((n + 1) * 16) * p = mul-le-mul_right p (omega arith) in
        let same : ((n + 1) * 16) * p ≡ (n + 1) * (p * 16) = mul_assoc (n + 1) 16 p ∙ ap (λ (k : ℕ). (n + 1) * k) (mul_comm 16 p) in
        rw e (le_trans lt (rw (← same) le))

pub names_word : (text : List ℕ) (word : ℕ) → (word_of text ≡ Some word) ↔ ((word < 2 ^ 128) × (text ≡ nonce_text word))
names_word text word = (
  λ e.
      let n = names text word e in
      let lt : word < 1 * 16 ^ 32 = rw (n.number, n.sized) at (below 0 text n.digits) in
      (omega (arith, lt), sym n.same),
  λ (lt, e). rw e (named_by (nonce_text word) word (word_reads word lt)),
)
