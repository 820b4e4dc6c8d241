-- The number of a port, digit by digit.
use Rattle.std.proofs.Common.{◌≡◌, ℕ, ◌+◌, ◌*◌, ◌^◌, ◌<◌, ◌≤◌, Bool, true, false, cond, List, [], ◌∷◌, ◌++◌, length, take, get_or, Option, Some, None, refl, ap, ◌∙◌}
use Rattle.std.proofs.Common.{arith}
use Rattle.std.specs.Prelude.{◌&&◌, nat_le, nat_lt}
use Rattle.std.specs.Option.{option_and_then}
use Rattle.std.specs.List.{list_all}
use Rattle.std.specs.Char.{is_ascii_digit, digit_value}
use Rattle.std.specs.Str.Parse.{digits_value_after, digits_value}
use Rattle.std.proofs.lemmas.Bool.Decides.{nat_tests}
use Rattle.std.proofs.lemmas.List.{take_more}
use Rattle.sip_uri.specs.Host.{is_host_byte}
use Rattle.sip_uri.specs.Port.{in_port_range, port_value}

-- what is read after a number, of digits alone, while it may be a port
abbrev pub port_on : ℕ → List ℕ → Option ℕ
port_on n [] = in_port_range n
port_on n (b ∷ bs) = cond (is_ascii_digit b) (cond (nat_le (n * 10 + digit_value b) 65535) (port_on (n * 10 + digit_value b) bs) None) None

grows : (n : ℕ) (bs : List ℕ) → n ≤ digits_value_after 10 n bs
grows n [] = omega arith
grows n (b ∷ bs) = omega (arith, grows (n * 10 + digit_value b) bs)

-- the digits and what they write, as one test at the end
abbrev by_value : Bool → ℕ → Option ℕ
by_value all v = option_and_then in_port_range (cond (all && nat_lt v (2 ^ 64)) (Some v) None)

too_many : (all : Bool) (v : ℕ) → 65535 < v → by_value all v ≡ None
too_many false v lt = refl
too_many true v lt = grind (arith, nat_tests)

one_test : (digit all : Bool) (v k : ℕ) (rest : Option ℕ) → (k ≤ 65535 → by_value all v ≡ rest) → k ≤ v
    → by_value (digit && all) v ≡ cond digit (cond (nat_le k 65535) rest None) None
one_test false all v k rest is le = refl
one_test true all v k rest is le = by_size (nat_le k 65535) refl
  where
    by_size : (t : Bool) → nat_le k 65535 ≡ t → by_value all v ≡ cond (nat_le k 65535) rest None
    by_size true e = rw e (is (grind (arith, nat_tests)))
    by_size false e = rw e (too_many all v (grind (arith, nat_tests)))

number_is : (n : ℕ) (bs : List ℕ) → n ≤ 65535 → by_value (list_all is_ascii_digit bs) (digits_value_after 10 n bs) ≡ port_on n bs
number_is n [] le = grind (arith, nat_tests)
number_is n (b ∷ bs) le =
    let k : ℕ = n * 10 + digit_value b in
    one_test (is_ascii_digit b) (list_all is_ascii_digit bs) (digits_value_after 10 k bs) k (port_on k bs) (λ h. number_is k bs h) (grows k bs)

pub port_is : (bs : List ℕ) → port_value bs ≡ port_on 0 bs
port_is [] = refl
port_is (b ∷ bs) = number_is 0 (b ∷ bs) (omega arith)

-- ---- a port at the front of a text

-- so many bytes are digits, and write this number
pub record WritesAt (text : List ℕ) (at number : ℕ) : Type 0 where
  pub digits : list_all is_ascii_digit (take at text) ≡ true
  pub value : digits_value 10 (take at text) ≡ number
  pub small : number ≤ 65535

pub at_front : (text : List ℕ) → WritesAt text 0 0
at_front text = record { digits = refl; value = refl; small = omega arith }

all_more : (xs : List ℕ) (b : ℕ) → list_all is_ascii_digit xs ≡ true → is_ascii_digit b ≡ true → list_all is_ascii_digit (xs ++ b ∷ []) ≡ true
all_more [] b all is = rw is refl
all_more (x ∷ xs) b all is = both (is_ascii_digit x) (list_all is_ascii_digit xs) all (all_more xs b)
  where
    both : (s t : Bool) → (s && t) ≡ true → (t ≡ true → is_ascii_digit b ≡ true → list_all is_ascii_digit (xs ++ b ∷ []) ≡ true)
        → (s && list_all is_ascii_digit (xs ++ b ∷ [])) ≡ true
    both true true e later = later refl is
    both true false e later = absurd cc
    both false t e later = absurd cc

value_more : (n : ℕ) (xs : List ℕ) (b : ℕ) → digits_value_after 10 n (xs ++ b ∷ []) ≡ digits_value_after 10 n xs * 10 + digit_value b
value_more n [] b = refl
value_more n (x ∷ xs) b = value_more (n * 10 + digit_value x) xs b

pub one_more : (text : List ℕ) (at n : ℕ) → at < length text → is_ascii_digit (get_or text at 0) ≡ true → WritesAt text at n
    → n * 10 + digit_value (get_or text at 0) ≤ 65535
    → WritesAt text (at + 1) (n * 10 + digit_value (get_or text at 0))
one_more text at n within is before le =
    let longer : take (at + 1) text ≡ take at text ++ get_or text at 0 ∷ [] = take_more text at 0 within in
    record {
      digits = ap (list_all is_ascii_digit) longer ∙ all_more (take at text) (get_or text at 0) before.digits is;
      value = ap (digits_value 10) longer ∙ value_more 0 (take at text) (get_or text at 0) ∙ ap (λ (k : ℕ). k * 10 + digit_value (get_or text at 0)) before.value;
      small = le;
    }

port_by : (ds : List ℕ) (n : ℕ) → list_all is_ascii_digit ds ≡ true → digits_value 10 ds ≡ n → n ≤ 65535 → 1 ≤ n → port_value ds ≡ Some n
port_by [] n all is le some = absurd (omega (arith, is, some))
port_by (d ∷ ds) n all is le some = rw (all, is) (grind (arith, nat_tests))

pub port_written : (text : List ℕ) (at n : ℕ) → WritesAt text at n → 1 ≤ n → port_value (take at text) ≡ Some n
port_written text at n is some = port_by (take at text) n is.digits is.value is.small some

-- ---- its digits may stand in a host name

digit_host : (b : ℕ) → is_ascii_digit b ≡ true → is_host_byte b ≡ true
digit_host b is = grind (arith, nat_tests)

all_hosts : (ds : List ℕ) → list_all is_ascii_digit ds ≡ true → list_all is_host_byte ds ≡ true
all_hosts [] all = refl
all_hosts (d ∷ ds) all = both (is_ascii_digit d) (list_all is_ascii_digit ds) refl all (all_hosts ds)
  where
    both : (s t : Bool) → is_ascii_digit d ≡ s → (s && t) ≡ true → (t ≡ true → list_all is_host_byte ds ≡ true) → (is_host_byte d && list_all is_host_byte ds) ≡ true
    both true true is e later = rw (digit_host d is) (later refl)
    both true false is e later = absurd cc
    both false t is e later = absurd cc

all_by : (all : Bool) (v n : ℕ) → by_value all v ≡ Some n → all ≡ true
all_by true v n e = refl
all_by false v n e = absurd cc

pub port_bytes : (ds : List ℕ) (n : ℕ) → port_value ds ≡ Some n → list_all is_host_byte ds ≡ true
port_bytes [] n e = refl
port_bytes (d ∷ ds) n e = all_hosts (d ∷ ds) (all_by (list_all is_ascii_digit (d ∷ ds)) (digits_value 10 (d ∷ ds)) n e)
