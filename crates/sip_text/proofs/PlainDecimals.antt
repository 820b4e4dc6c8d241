-- The text of a number is read as it, and no other text without leading zeros is.
use Rattle.std.proofs.Common.{◌≡◌, ℕ, zero, suc, ◌<◌, ◌^◌, Bool, true, false, ◌&&◌, ◌==◌, nat_lt, List, [], ◌∷◌, length, get_or, decimal, Some, None, refl, sym, ap}
use Rattle.std.proofs.Common.{subst, ◌∙◌, arith, if◌then◌else◌}
use Rattle.std.specs.List.{list_all}
use Rattle.std.specs.Char.{is_ascii_digit}
use Rattle.std.specs.Str.{all_ascii_digits}
use Rattle.std.specs.Str.Parse.{digits_value}
use Rattle.std.proofs.lemmas.Str.Parse.{numerals_by_value, tells_all_ascii_digits}
use Rattle.std.proofs.lemmas.Fmt.{decimal-digits_value, digits_decimal, digits_value-decimal, decimal_nonempty, decimal_digit, first_decimal}
use Rattle.std.proofs.lemmas.Bool.{ltb-true, lt-ltb, ne_eqb}
use Rattle.sip_text.specs.Numbers.{has_leading_zero, plain_decimal_of}

same_test : (ds : List ℕ) → list_all is_ascii_digit ds ≡ all_ascii_digits ds
same_test [] = refl
same_test (d ∷ ds) = ap (λ t. is_ascii_digit d && t) (same_test ds)

-- ---- only that text

one_or_no_zero : (ds : List ℕ) → 0 < length ds → has_leading_zero ds ≡ false → get_or ds 0 0 ≡ 48 → length ds ≡ 1
one_or_no_zero [] some e is = absurd (omega arith)
one_or_no_zero (d ∷ []) some e is = refl
one_or_no_zero (d ∷ f ∷ ds) some e is =
    let never : (48 == 48) ≡ false = subst (λ (k : ℕ). (k == 48) ≡ false) is e in
    absurd cc

pub written_digits : (ds : List ℕ) → 0 < length ds → list_all is_ascii_digit ds ≡ true → has_leading_zero ds ≡ false → digits_value 10 ds < 2 ^ 64
    → ds ≡ decimal (digits_value 10 ds)
written_digits ds some digits front small =
    sym (decimal-digits_value (numerals_by_value (λ ds. all_ascii_digits ds ≡ true) tells_all_ascii_digits) ds (sym (same_test ds) ∙ digits) some
    (one_or_no_zero ds some front) small)

-- what a reading found
record IsPlain (zeros all small : Bool) (value number : ℕ) : Type 0 where
  front : zeros ≡ false
  digits : all ≡ true
  below : small ≡ true
  is : value ≡ number

parts : (zeros all small : Bool) (value number : ℕ) → (if zeros then None else if all && small then Some value else None) ≡ Some number
    → IsPlain zeros all small value number
parts true all small value number e = absurd cc
parts false false small value number e = absurd cc
parts false true false value number e = absurd cc
parts false true true value number e = record { front = refl; digits = refl; below = refl; is = cc }

pub plain_written : (text : List ℕ) (number : ℕ) → plain_decimal_of text ≡ Some number → text ≡ decimal number
plain_written [] number e = absurd cc
plain_written (d ∷ ds) number e =
    let p = parts (has_leading_zero (d ∷ ds)) (list_all is_ascii_digit (d ∷ ds)) (nat_lt (digits_value 10 (d ∷ ds)) (2 ^ 64)) (digits_value 10 (d ∷ ds)) number e in
    written_digits (d ∷ ds) (omega arith) p.digits p.front (ltb-true _ _ p.below) ∙ ap decimal p.is

-- ---- that text

no_zero : (ds : List ℕ) → 48 < get_or ds 0 0 → has_leading_zero ds ≡ false
no_zero [] above = refl
no_zero (d ∷ []) above = refl
no_zero (d ∷ f ∷ ds) above = ne_eqb d 48 (λ e. omega (arith, e, above))

plain_front : (n : ℕ) → n < 2 ^ 64 → has_leading_zero (decimal n) ≡ false
plain_front zero lt = ap has_leading_zero (decimal_digit 0 (omega arith))
plain_front (suc n) lt = no_zero (decimal (suc n)) (first_decimal (suc n) (omega arith) lt)

joined : (zeros all small : Bool) (value n : ℕ) → zeros ≡ false → all ≡ true → small ≡ true → value ≡ n
    → (if zeros then None else if all && small then Some value else None) ≡ Some n
joined zeros all small value n e f g is = rw (e, f, g) (ap (λ (k : ℕ). Some k) is)

plain_is : (ds : List ℕ) (n : ℕ) → 0 < length ds → has_leading_zero ds ≡ false → list_all is_ascii_digit ds ≡ true → digits_value 10 ds ≡ n → n < 2 ^ 64
    → plain_decimal_of ds ≡ Some n
plain_is [] n some front all is lt = absurd (omega arith)
plain_is (d ∷ ds) n some front all is lt =
    joined (has_leading_zero (d ∷ ds)) (list_all is_ascii_digit (d ∷ ds)) (nat_lt (digits_value 10 (d ∷ ds)) (2 ^ 64)) (digits_value 10 (d ∷ ds)) n front all
    (lt-ltb _ _ (subst (λ (k : ℕ). k < 2 ^ 64) (sym is) lt)) is

pub plain_read : (n : ℕ) → n < 2 ^ 64 → plain_decimal_of (decimal n) ≡ Some n
plain_read n lt =
    let own = numerals_by_value (λ ds. all_ascii_digits ds ≡ true) tells_all_ascii_digits in
    plain_is (decimal n) n (decimal_nonempty n lt) (plain_front n lt) (same_test (decimal n) ∙ digits_decimal own n lt) (digits_value-decimal own n lt) lt

-- no byte of a number's text is another than a digit
pub digits_alone : (n : ℕ) → n < 2 ^ 64 → list_all is_ascii_digit (decimal n) ≡ true
digits_alone n lt = same_test (decimal n) ∙ digits_decimal (numerals_by_value (λ ds. all_ascii_digits ds ≡ true) tells_all_ascii_digits) n lt
