-- Dotted text, number by number.
use Rattle.std.proofs.Common.{◌≡◌, ℕ, ◌+◌, ◌*◌, ◌^◌, ◌<◌, ◌≤◌, Bool, true, false, cond, ◌&&◌, ◌==◌, not, nat_le, nat_lt, if◌then◌else◌, List, [], ◌∷◌, length, Option}
use Rattle.std.proofs.Common.{Some, None, option_map, option_and_then, refl, sym, ap, ◌∙◌, arith}
use Rattle.std.specs.List.{list_all}
use Rattle.std.specs.Char.{is_ascii_digit, digit_value}
use Rattle.std.specs.Str.Parse.{digits_value_after, digits_value}
use Rattle.std.proofs.lemmas.Bool.{ne_eqb, eqb-true}
use Rattle.std.proofs.lemmas.Bool.Decides.{nat_tests}
use Rattle.sip_text.specs.Lists.{onto}
use Rattle.sip_text.specs.Splits.{in_front, split_at_byte}
use Rattle.sip_text.specs.Numbers.{has_leading_zero}
use Rattle.sip_uri.specs.Addresses.{ip_of, ip_number, ip_numbers, between_dots, one_more, number_before, number_at}

-- ---- one number, from the left

-- what is read behind a number, digit by digit
abbrev more_on : Option ℕ → List ℕ → Option ℕ
more_on number [] = number
more_on number (b ∷ bs) = option_and_then (λ n. more_on (Some n) bs) (one_more number b)

grows : (n : ℕ) (bs : List ℕ) → n ≤ digits_value_after 10 n bs
grows n [] = omega arith
grows n (b ∷ bs) = omega (arith, grows (n * 10 + digit_value b) bs)

one_test : (digit all : Bool) (n k v : ℕ) (rest : ℕ → Option ℕ) → 0 < n → k ≤ v → (k ≤ 255 → cond (all && nat_le v 255) (Some v) None ≡ rest k)
    → cond (digit && all && nat_le v 255) (Some v) None ≡ option_and_then rest (cond (digit && not (n == 0) && nat_le k 255) (Some k) None)
one_test false all n k v rest some le is = refl
one_test true false n k v rest some le is = grind (arith, nat_tests)
one_test true true n k v rest some le is = grind (arith, nat_tests)

-- the same, as one test at the end
number_is : (n : ℕ) (bs : List ℕ) → 0 < n → n ≤ 255 → cond (list_all is_ascii_digit bs && nat_le (digits_value_after 10 n bs) 255) (Some (digits_value_after 10 n bs))
    None ≡ more_on (Some n) bs
number_is n [] some small = grind (arith, nat_tests)
number_is n (b ∷ bs) some small =
    let k : ℕ = n * 10 + digit_value b in
    one_test (is_ascii_digit b) (list_all is_ascii_digit bs) n k (digits_value_after 10 k bs) (λ m. more_on (Some m) bs) some (grows k bs)
    (λ h. number_is k bs (omega arith) h)

-- the tests of a number at once
flat : (all zeros : Bool) (v : ℕ) → option_and_then (λ n. if nat_le n 255 && not zeros then Some n else None) (if all && nat_lt v (2 ^ 64) then Some v else None)
    ≡ cond zeros None (cond (all && nat_le v 255) (Some v) None)
flat true true v = grind (arith, nat_tests)
flat true false v = grind (arith, nat_tests)
flat false true v = refl
flat false false v = refl

digit_is : (d : ℕ) → is_ascii_digit d ≡ true → d ≡ 48 + digit_value d
digit_is d is = grind (arith, nat_tests)

digit_small : (d : ℕ) → is_ascii_digit d ≡ true → digit_value d < 10
digit_small d is = grind (arith, nat_tests)

not_zero : (d v : ℕ) → (d == 48) ≡ false → d ≡ 48 + v → 0 < v
not_zero d v other is = grind (arith, nat_tests)

zero_ends : (e : ℕ) (es : List ℕ) (t : Bool) → is_ascii_digit e ≡ t → more_on (Some 0) (e ∷ es) ≡ None
zero_ends e es true is = rw is refl
zero_ends e es false is = rw is refl

behind_first : (d : ℕ) (ds : List ℕ) (zero : Bool) → is_ascii_digit d ≡ true → (d == 48) ≡ zero
    → cond (has_leading_zero (d ∷ ds)) None (cond (list_all is_ascii_digit ds && nat_le (digits_value_after 10 (digit_value d) ds) 255)
    (Some (digits_value_after 10 (digit_value d) ds)) None) ≡ more_on (Some (digit_value d)) ds
behind_first d [] zero is starts = let e = digit_is d is in grind (arith, nat_tests)
behind_first d (e ∷ es) true is starts =
    let same : d ≡ 48 = eqb-true d 48 starts in
    let none : digit_value d ≡ 0 = omega (arith, digit_is d is) in
    rw starts (sym (ap (λ (n : ℕ). more_on (Some n) (e ∷ es)) none ∙ zero_ends e es (is_ascii_digit e) refl))
behind_first d (e ∷ es) false is starts =
    let some : 0 < digit_value d = not_zero d (digit_value d) starts (digit_is d is) in
    rw starts (number_is (digit_value d) (e ∷ es) some (omega (arith, digit_small d is)))

from_first : (d : ℕ) (ds : List ℕ) (digit : Bool) → is_ascii_digit d ≡ digit
    → cond (has_leading_zero (d ∷ ds)) None (cond (list_all is_ascii_digit (d ∷ ds) && nat_le (digits_value 10 (d ∷ ds)) 255) (Some (digits_value 10 (d ∷ ds))) None)
    ≡ more_on None (d ∷ ds)
from_first d ds true is =
    let first : 0 * 10 + digit_value d ≡ digit_value d = omega arith in
    rw (is, first) (behind_first d ds (d == 48) is refl)
from_first d ds false is = rw is (no_number (has_leading_zero (d ∷ ds)))
  where
    no_number : (t : Bool) → cond {A = Option ℕ} t None None ≡ None
    no_number true = refl
    no_number false = refl

number_read : (text : List ℕ) → ip_number text ≡ more_on None text
number_read [] = refl
number_read (d ∷ ds) = flat (list_all is_ascii_digit (d ∷ ds)) (has_leading_zero (d ∷ ds)) (digits_value 10 (d ∷ ds)) ∙ from_first d ds (is_ascii_digit d) refl

-- ---- one number, up to its dot

-- what a text gives behind a number, byte by byte
abbrev pub read_on : Option ℕ → List ℕ → Option (ℕ × Option (List ℕ))
read_on number [] = option_map (λ n. (n, None)) number
read_on number (b ∷ bs) = if b == 46 then option_map (λ n. (n, Some bs)) number else option_and_then (λ n. read_on (Some n) bs) (one_more number b)

-- the same by the split
abbrev before : Option ℕ → List ℕ → Option (List ℕ × List ℕ) → Option (ℕ × Option (List ℕ))
before number text None = option_map (λ n. (n, None)) (more_on number text)
before number text (Some parts) = option_map (λ n. (n, Some parts.1)) (more_on number parts.0)

front_by : (bs : List ℕ) (o : Option (List ℕ × List ℕ)) (m : Option ℕ) (b : ℕ) (number : Option ℕ) → one_more number b ≡ m
    → before number (b ∷ bs) (in_front (b ∷ []) o) ≡ option_and_then (λ n. before (Some n) bs o) (one_more number b)
front_by bs None None b number is = rw is refl
front_by bs None (Some n) b number is = rw is refl
front_by bs (Some x) None b number is = rw is refl
front_by bs (Some x) (Some n) b number is = rw is refl

same_behind : (bs : List ℕ) (o : Option (List ℕ × List ℕ)) (m : Option ℕ) → ((n : ℕ) → read_on (Some n) bs ≡ before (Some n) bs o)
    → option_and_then (λ n. read_on (Some n) bs) m ≡ option_and_then (λ n. before (Some n) bs o) m
same_behind bs o None is = refl
same_behind bs o (Some n) is = is n

by_test : (number : Option ℕ) (b : ℕ) (bs : List ℕ) (t : Bool) → (b == 46) ≡ t → ((n : ℕ) → read_on (Some n) bs ≡ before (Some n) bs (split_at_byte 46 bs))
    → read_on number (b ∷ bs) ≡ before number (b ∷ bs) (split_at_byte 46 (b ∷ bs))
by_test number b bs true is later = rw is refl
by_test number b bs false is later =
    rw is (same_behind bs (split_at_byte 46 bs) (one_more number b) later ∙ sym (front_by bs (split_at_byte 46 bs) (one_more number b) b number refl))

read_is : (number : Option ℕ) (text : List ℕ) → read_on number text ≡ before number text (split_at_byte 46 text)
read_is number [] = refl
read_is number (b ∷ bs) = by_test number b bs (b == 46) refl (λ n. read_is (Some n) bs)

before_is : (text : List ℕ) (o : Option (List ℕ × List ℕ)) → before None text o ≡ number_before text o
before_is text None = ap (option_map (λ n. (n, None))) (sym (number_read text))
before_is text (Some x) = ap (option_map (λ n. (n, Some x.1))) (sym (number_read x.0))

pub number_at_is : (text : List ℕ) → read_on None text ≡ number_at text
number_at_is text = read_is None text ∙ before_is text (split_at_byte 46 text)

-- the first byte is a digit, or there is no number
pub first_digit : (text : List ℕ) (b : ℕ) (bs : List ℕ) → text ≡ b ∷ bs → is_ascii_digit b ≡ true → read_on (Some (digit_value b)) bs ≡ number_at text
first_digit text b bs whole is = sym (ap number_at whole ∙ sym (number_at_is (b ∷ bs)) ∙ by_dot (b == 46) refl)
  where
    by_dot : (t : Bool) → (b == 46) ≡ t → read_on None (b ∷ bs) ≡ read_on (Some (digit_value b)) bs
    by_dot true e = absurd (grind (arith, nat_tests))
    by_dot false e = rw (e, is) refl

pub no_digit : (text : List ℕ) (b : ℕ) (bs : List ℕ) → text ≡ b ∷ bs → is_ascii_digit b ≡ false → None ≡ number_at text
no_digit text b bs whole other = sym (ap number_at whole ∙ sym (number_at_is (b ∷ bs)) ∙ by_dot (b == 46) refl)
  where
    by_dot : (t : Bool) → (b == 46) ≡ t → read_on None (b ∷ bs) ≡ None
    by_dot true e = rw e refl
    by_dot false e = rw (e, other) refl

-- ---- the numbers

-- the parts of a text that was cut at its first dot, or the text as one part
abbrev parts_by : List ℕ → Option (List ℕ × List ℕ) → List (List ℕ)
parts_by text None = text ∷ []
parts_by text (Some x) = x.0 ∷ between_dots x.1

by_front : (b : ℕ) (bs : List ℕ) (o : Option (List ℕ × List ℕ)) → onto (b ∷ []) (parts_by bs o) ≡ parts_by (b ∷ bs) (in_front (b ∷ []) o)
by_front b bs None = refl
by_front b bs (Some x) = refl

parts_test : (b : ℕ) (bs : List ℕ) (t : Bool) → (b == 46) ≡ t → between_dots bs ≡ parts_by bs (split_at_byte 46 bs)
    → between_dots (b ∷ bs) ≡ parts_by (b ∷ bs) (split_at_byte 46 (b ∷ bs))
parts_test b bs true is rest = rw is refl
parts_test b bs false is rest = rw is (ap (onto (b ∷ [])) rest ∙ by_front b bs (split_at_byte 46 bs))

parts_are : (text : List ℕ) → between_dots text ≡ parts_by text (split_at_byte 46 text)
parts_are [] = refl
parts_are (b ∷ bs) = parts_test b bs (b == 46) refl (parts_are bs)

-- the numbers of what follows a dot, if one was there
abbrev behind : Option (List ℕ) → Option (List ℕ)
behind None = Some []
behind (Some rest) = ip_numbers (between_dots rest)

-- the numbers by the first of them
abbrev numbers_by : Option (ℕ × Option (List ℕ)) → Option (List ℕ)
numbers_by None = None
numbers_by (Some x) = option_map (λ ns. x.0 ∷ ns) (behind x.1)

numbers_one : (o : Option ℕ) → option_and_then (λ n. option_map (λ ns. n ∷ ns) (Some [])) o ≡ numbers_by (option_map (λ n. (n, None)) o)
numbers_one None = refl
numbers_one (Some n) = refl

numbers_more : (rest : List ℕ) (o : Option ℕ) → option_and_then (λ n. option_map (λ ns. n ∷ ns) (ip_numbers (between_dots rest))) o
    ≡ numbers_by (option_map (λ n. (n, Some rest)) o)
numbers_more rest None = refl
numbers_more rest (Some n) = refl

numbers_split : (text : List ℕ) (o : Option (List ℕ × List ℕ)) → ip_numbers (parts_by text o) ≡ numbers_by (number_before text o)
numbers_split text None = numbers_one (ip_number text)
numbers_split text (Some x) = numbers_more x.1 (ip_number x.0)

numbers_are : (text : List ℕ) → ip_numbers (between_dots text) ≡ numbers_by (number_at text)
numbers_are text = ap ip_numbers (parts_are text) ∙ numbers_split text (split_at_byte 46 text)

-- the number behind a dot, if one was there
abbrev next : Option (List ℕ) → Option (ℕ × Option (List ℕ))
next rest = option_and_then number_at rest

-- four numbers in a row
abbrev kept : List ℕ → Option (List ℕ)
kept ip = if length ip == 4 then Some ip else None

first_is : (text : List ℕ) (a : ℕ) (r : Option (List ℕ)) → Some (a, r) ≡ number_at text → ip_of text ≡ option_and_then kept (option_map (λ ns. a ∷ ns) (behind r))
first_is text a r e = ap (option_and_then kept) (numbers_are text ∙ ap numbers_by (sym e))

more_are : (r s : Option (List ℕ)) (b : ℕ) → Some (b, s) ≡ next r → behind r ≡ option_map (λ ns. b ∷ ns) (behind s)
more_are None s b e = absurd cc
more_are (Some rest) s b e = numbers_are rest ∙ ap numbers_by (sym e)

-- numbers in front of a rest that has no more
no_more : (front : List ℕ → List ℕ) (r : Option (List ℕ)) → (length (front []) == 4) ≡ false → None ≡ next r → option_and_then kept (option_map front (behind r)) ≡ None
no_more front None few e = rw few refl
no_more front (Some rest) few e = ap (λ o. option_and_then kept (option_map front o)) (numbers_are rest ∙ ap numbers_by (sym e))

pub none_at_all : (text : List ℕ) → None ≡ number_at text → None ≡ ip_of text
none_at_all text e = sym (ap (option_and_then kept) (numbers_are text ∙ ap numbers_by (sym e)))

pub one_alone : (text : List ℕ) (a : ℕ) (r : Option (List ℕ)) → Some (a, r) ≡ number_at text → None ≡ next r → None ≡ ip_of text
one_alone text a r e none = sym (first_is text a r e ∙ no_more (λ ns. a ∷ ns) r refl none)

twice : (f g : List ℕ → List ℕ) (o : Option (List ℕ)) → option_map f (option_map g o) ≡ option_map (λ ns. f (g ns)) o
twice f g None = refl
twice f g (Some ns) = refl

two_are : (text : List ℕ) (a b : ℕ) (r s : Option (List ℕ)) → Some (a, r) ≡ number_at text → Some (b, s) ≡ next r
    → ip_of text ≡ option_and_then kept (option_map (λ ns. a ∷ b ∷ ns) (behind s))
two_are text a b r s e f = first_is text a r e ∙ ap (λ o. option_and_then kept (option_map (λ ns. a ∷ ns) o)) (more_are r s b f)
    ∙ ap (option_and_then kept) (twice (λ ns. a ∷ ns) (λ ns. b ∷ ns) (behind s))

pub two_alone : (text : List ℕ) (a b : ℕ) (r s : Option (List ℕ)) → Some (a, r) ≡ number_at text → Some (b, s) ≡ next r → None ≡ next s → None ≡ ip_of text
two_alone text a b r s e f none = sym (two_are text a b r s e f ∙ no_more (λ ns. a ∷ b ∷ ns) s refl none)

three_are : (text : List ℕ) (a b c : ℕ) (r s t : Option (List ℕ)) → Some (a, r) ≡ number_at text → Some (b, s) ≡ next r → Some (c, t) ≡ next s
    → ip_of text ≡ option_and_then kept (option_map (λ ns. a ∷ b ∷ c ∷ ns) (behind t))
three_are text a b c r s t e f g = two_are text a b r s e f ∙ ap (λ o. option_and_then kept (option_map (λ ns. a ∷ b ∷ ns) o)) (more_are s t c g)
    ∙ ap (option_and_then kept) (twice (λ ns. a ∷ b ∷ ns) (λ ns. c ∷ ns) (behind t))

pub three_alone : (text : List ℕ) (a b c : ℕ) (r s t : Option (List ℕ)) → Some (a, r) ≡ number_at text → Some (b, s) ≡ next r → Some (c, t) ≡ next s → None ≡ next t
    → None ≡ ip_of text
three_alone text a b c r s t e f g none = sym (three_are text a b c r s t e f g ∙ no_more (λ ns. a ∷ b ∷ c ∷ ns) t refl none)

four_are : (text : List ℕ) (a b c d : ℕ) (r s t u : Option (List ℕ)) → Some (a, r) ≡ number_at text → Some (b, s) ≡ next r → Some (c, t) ≡ next s → Some (d, u) ≡ next t
    → ip_of text ≡ option_and_then kept (option_map (λ ns. a ∷ b ∷ c ∷ d ∷ ns) (behind u))
four_are text a b c d r s t u e f g h = three_are text a b c r s t e f g ∙ ap (λ o. option_and_then kept (option_map (λ ns. a ∷ b ∷ c ∷ ns) o)) (more_are t u d h)
    ∙ ap (option_and_then kept) (twice (λ ns. a ∷ b ∷ c ∷ ns) (λ ns. d ∷ ns) (behind u))

pub four_alone : (text : List ℕ) (a b c d : ℕ) (r s t u : Option (List ℕ)) → Some (a, r) ≡ number_at text → Some (b, s) ≡ next r → Some (c, t) ≡ next s
    → Some (d, u) ≡ next t → u ≡ None
    → Some (a ∷ b ∷ c ∷ d ∷ []) ≡ ip_of text
four_alone text a b c d r s t u e f g h last = sym (four_are text a b c d r s t u e f g h
    ∙ ap (λ o. option_and_then kept (option_map (λ ns. a ∷ b ∷ c ∷ d ∷ ns) (behind o))) last)

-- ---- more than four numbers

some_behind : (n : ℕ) (o : Option (List ℕ)) (ns : List ℕ) → option_map (λ ms. n ∷ ms) o ≡ Some ns → 0 < length ns
some_behind n None ns e = absurd cc
some_behind n (Some ms) ns e =
    let same : n ∷ ms ≡ ns = cc in
    omega (arith, ap length same)

some_by : (o : Option (ℕ × Option (List ℕ))) (ns : List ℕ) → numbers_by o ≡ Some ns → 0 < length ns
some_by None ns e = absurd cc
some_by (Some x) ns e = some_behind x.0 (behind x.1) ns e

five : (a b c d : ℕ) (o : Option (List ℕ)) → ((ns : List ℕ) → o ≡ Some ns → 0 < length ns) → option_and_then kept (option_map (λ ns. a ∷ b ∷ c ∷ d ∷ ns) o) ≡ None
five a b c d None some = refl
five a b c d (Some ns) some =
    let long = some ns refl in
    rw (ne_eqb (length (a ∷ b ∷ c ∷ d ∷ ns)) 4 (λ e. omega (arith, e, long))) refl

pub too_many : (text : List ℕ) (a b c d : ℕ) (r s t u : Option (List ℕ)) (rest : List ℕ) → Some (a, r) ≡ number_at text → Some (b, s) ≡ next r → Some (c, t) ≡ next s
    → Some (d, u) ≡ next t → u ≡ Some rest
    → None ≡ ip_of text
too_many text a b c d r s t u rest e f g h more =
    sym (four_are text a b c d r s t u e f g h ∙ ap (λ o. option_and_then kept (option_map (λ ns. a ∷ b ∷ c ∷ d ∷ ns) (behind o))) more
    ∙ five a b c d (ip_numbers (between_dots rest)) (λ ns i. some_by (number_at rest) ns (sym (numbers_are rest) ∙ i)))
