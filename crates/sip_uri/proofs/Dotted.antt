-- Dotted text, and the address that it writes.
use Rattle.std.proofs.Common.{◌≡◌, ℕ, zero, suc, ◌<◌, ◌≤◌, ◌^◌, Bool, true, false, ◌&&◌, ◌==◌, not, nat_le, nat_lt, List, [], ◌∷◌, ◌++◌, length, map, decimal, Option}
use Rattle.std.proofs.Common.{Some, None, option_map, option_and_then, refl, sym, inl, inr, ap, ◌∙◌, arith, if◌then◌else◌}
use Rattle.std.specs.List.{list_all, join_with_byte}
use Rattle.std.specs.Str.{byte}
use Rattle.std.specs.Str.Parse.{digits_value}
use Rattle.std.specs.Char.{is_ascii_digit}
use Rattle.std.specs.Fmt.{digits}
use Rattle.std.proofs.lemmas.List.{append_assoc}
use Rattle.std.proofs.lemmas.Bool.{eqb-true, eq-eqb, leb-true, cases_lt}
use Rattle.sip_text.specs.Words.{decimal_of}
use Rattle.sip_text.specs.Lists.{onto}
use Rattle.sip_text.specs.Numbers.{has_leading_zero}
use Rattle.sip_text.proofs.PlainDecimals.{written_digits}
use Rattle.sip_uri.specs.Addresses.{ip_text, ip_of, ip_number, ip_numbers, between_dots}

and_then_some : {A B : Type 0} (f : A → Option B) (o : Option A) (y : B) → option_and_then f o ≡ Some y → (x : A) × (o ≡ Some x) × (f x ≡ Some y)
and_then_some f None y e = absurd cc
and_then_some f (Some x) y e = (x, refl, e)

pub map_some : {A B : Type 0} (f : A → B) (o : Option A) (y : B) → option_map f o ≡ Some y → (x : A) × (o ≡ Some x) × (f x ≡ y)
map_some f None y e = absurd cc
map_some f (Some x) y e = (x, refl, cc)

pub if_some : {A : Type 0} (t : Bool) (x y : A) → (if t then Some x else None) ≡ Some y → (t ≡ true) × (x ≡ y)
if_some true x y e = (refl, cc)
if_some false x y e = absurd cc

and_both : (a b : Bool) → (a && b) ≡ true → (a ≡ true) × (b ≡ true)
and_both true b e = (refl, e)
and_both false b e = absurd cc

not_is : (t : Bool) → not t ≡ true → t ≡ false
not_is true e = absurd cc
not_is false e = refl

-- ---- one number

pub number_written : (digits : List ℕ) (n : ℕ) → ip_number digits ≡ Some n → digits ≡ decimal n
number_written [] n e = absurd cc
number_written (d ∷ ds) n e =
    let got = and_then_some (λ n. if nat_le n 255 && not (has_leading_zero (d ∷ ds)) then Some n else None) (decimal_of (d ∷ ds)) n e in
    let value = if_some (list_all is_ascii_digit (d ∷ ds) && nat_lt (digits_value 10 (d ∷ ds)) (2 ^ 64)) (digits_value 10 (d ∷ ds)) got.0 got.1 in
    let limit = if_some (nat_le got.0 255 && not (has_leading_zero (d ∷ ds))) got.0 n got.2 in
    let digits = and_both (list_all is_ascii_digit (d ∷ ds)) (nat_lt (digits_value 10 (d ∷ ds)) (2 ^ 64)) value.0 in
    let both = and_both (nat_le got.0 255) (not (has_leading_zero (d ∷ ds))) limit.0 in
    let small : nat_le (digits_value 10 (d ∷ ds)) 255 ≡ true = ap (λ k. nat_le k 255) value.1 ∙ both.0 in
    written_digits (d ∷ ds) (omega arith) digits.0 (not_is (has_leading_zero (d ∷ ds)) both.1) (omega (arith, leb-true (digits_value 10 (d ∷ ds)) 255 small))
    ∙ ap decimal (value.1 ∙ limit.1)

-- ---- the pieces

pub numbers_written : (pieces : List (List ℕ)) (ns : List ℕ) → ip_numbers pieces ≡ Some ns → pieces ≡ map decimal ns
numbers_written [] [] e = refl
numbers_written [] (n ∷ ns) e = absurd cc
numbers_written (piece ∷ pieces) ns e =
    let first = and_then_some (λ n. option_map (λ ns. n ∷ ns) (ip_numbers pieces)) (ip_number piece) ns e in
    let rest = map_some (λ (ns : List ℕ). first.0 ∷ ns) (ip_numbers pieces) ns first.2 in
    let here : piece ≡ decimal first.0 = number_written piece first.0 first.1 in
    let later : pieces ≡ map decimal rest.0 = numbers_written pieces rest.0 rest.1 in
    let both : piece ∷ pieces ≡ decimal first.0 ∷ map decimal rest.0 = cc in
    both ∙ ap (map decimal) rest.2

some_piece_onto : (b : ℕ) (pieces : List (List ℕ)) → (pieces ≡ [] → ⊥) → onto (b ∷ []) pieces ≡ [] → ⊥
some_piece_onto b [] some e = some refl
some_piece_onto b (piece ∷ pieces) some e = cc

some_piece_by : (b : ℕ) (bs : List ℕ) (t : Bool) → (between_dots bs ≡ [] → ⊥) → (if t then [] ∷ between_dots bs else onto (b ∷ []) (between_dots bs)) ≡ [] → ⊥
some_piece_by b bs true some e = cc
some_piece_by b bs false some e = some_piece_onto b (between_dots bs) some e

some_piece : (bs : List ℕ) → between_dots bs ≡ [] → ⊥
some_piece [] e = cc
some_piece (b ∷ bs) e = some_piece_by b bs (b == byte ".") (some_piece bs) e

join_onto : (b : ℕ) (pieces : List (List ℕ)) → (pieces ≡ [] → ⊥) → join_with_byte 46 (onto (b ∷ []) pieces) ≡ b ∷ join_with_byte 46 pieces
join_onto b [] some = absurd (some refl)
join_onto b (piece ∷ []) some = refl
join_onto b (piece ∷ other ∷ pieces) some = refl

join_next : (pieces : List (List ℕ)) → (pieces ≡ [] → ⊥) → join_with_byte 46 ([] ∷ pieces) ≡ 46 ∷ join_with_byte 46 pieces
join_next [] some = absurd (some refl)
join_next (piece ∷ pieces) some = refl

join_by : (b : ℕ) (bs : List ℕ) (t : Bool) → (b == byte ".") ≡ t → join_with_byte 46 (between_dots bs) ≡ bs
    → join_with_byte 46 (if t then [] ∷ between_dots bs else onto (b ∷ []) (between_dots bs)) ≡ b ∷ bs
join_by b bs true is e =
    let dot : b ≡ 46 = eqb-true b 46 is in
    join_next (between_dots bs) (some_piece bs) ∙ cc
join_by b bs false is e = join_onto b (between_dots bs) (some_piece bs) ∙ ap (λ (rest : List ℕ). b ∷ rest) e

joined : (text : List ℕ) → join_with_byte 46 (between_dots text) ≡ text
joined [] = refl
joined (b ∷ bs) = join_by b bs (b == byte ".") refl (joined bs)

-- ---- written

four_by : (a b c d : ℕ) (rest : List ℕ) → (length (a ∷ b ∷ c ∷ d ∷ rest) == 4) ≡ true
    → join_with_byte 46 (map decimal (a ∷ b ∷ c ∷ d ∷ rest)) ≡ ip_text (a ∷ b ∷ c ∷ d ∷ rest)
four_by a b c d [] e = simp append_assoc refl
four_by a b c d (x ∷ rest) e =
    let never : length (a ∷ b ∷ c ∷ d ∷ x ∷ rest) ≡ 4 = eqb-true (length (a ∷ b ∷ c ∷ d ∷ x ∷ rest)) 4 e in
    absurd (omega arith)

four : (ip : List ℕ) → (length ip == 4) ≡ true → join_with_byte 46 (map decimal ip) ≡ ip_text ip
four [] e = absurd cc
four (a ∷ []) e = absurd cc
four (a ∷ b ∷ []) e = absurd cc
four (a ∷ b ∷ c ∷ []) e = absurd cc
four (a ∷ b ∷ c ∷ d ∷ rest) e = four_by a b c d rest e

pub text_written : (text ip : List ℕ) → ip_of text ≡ Some ip → text ≡ ip_text ip
text_written text ip e =
    let got = and_then_some (λ ip. if length ip == 4 then Some ip else None) (ip_numbers (between_dots text)) ip e in
    let four_numbers = if_some (length got.0 == 4) got.0 ip got.2 in
    let pieces : between_dots text ≡ map decimal got.0 = numbers_written (between_dots text) got.0 got.1 in
    sym (joined text) ∙ ap (join_with_byte 46) pieces ∙ four got.0 four_numbers.0 ∙ ap ip_text four_numbers.1

-- ---- read

-- whether a test holds of each number below one
abbrev all_below : (ℕ → Bool) → ℕ → Bool
all_below test zero = true
all_below test (suc k) = test k && all_below test k

abbrev is_number : ℕ → Option ℕ → Bool
is_number n None = false
is_number n (Some m) = m == n

-- what is read of the text of a number, and that no dot stands in it
abbrev is_read : ℕ → Bool
is_read n = is_number n (ip_number (decimal n)) && list_all (λ b. not (b == byte ".")) (decimal n)

all_read : all_below is_read 256 ≡ true
unfolding digits
all_read = refl

below : (test : ℕ → Bool) (k n : ℕ) → all_below test k ≡ true → n < k → test n ≡ true
below test zero n all less = absurd (omega arith)
below test (suc k) n all less =
    let both = and_both (test k) (all_below test k) all in
    elim (cases_lt n k) [ inl under ↦ below test k n both.1 under | inr over ↦ (let last : n ≡ k = omega arith in ap test last ∙ both.0) ]

number_is : (n : ℕ) (o : Option ℕ) → is_number n o ≡ true → o ≡ Some n
number_is n None e = absurd cc
number_is n (Some m) e = ap (λ (k : ℕ). Some k) (eqb-true m n e)

number_read : (n : ℕ) → nat_le n 255 ≡ true → (ip_number (decimal n) ≡ Some n) × (list_all (λ b. not (b == byte ".")) (decimal n) ≡ true)
number_read n small =
    let at_most : n ≤ 255 = leb-true n 255 small in
    let read = and_both (is_number n (ip_number (decimal n))) (list_all (λ b. not (b == byte ".")) (decimal n)) (below is_read 256 n all_read (omega (arith, at_most))) in
    (number_is n (ip_number (decimal n)) read.0, read.1)

cut_at : (xs rest : List ℕ) → list_all (λ b. not (b == byte ".")) xs ≡ true → between_dots (xs ++ 46 ∷ rest) ≡ xs ∷ between_dots rest
cut_at [] rest e = refl
cut_at (x ∷ xs) rest e =
    let both = and_both (not (x == byte ".")) (list_all (λ b. not (b == byte ".")) xs) e in
    rw (not_is (x == byte ".") both.0, cut_at xs rest both.1) refl

never_cut : (xs : List ℕ) → list_all (λ b. not (b == byte ".")) xs ≡ true → between_dots xs ≡ xs ∷ []
never_cut [] e = refl
never_cut (x ∷ xs) e =
    let both = and_both (not (x == byte ".")) (list_all (λ b. not (b == byte ".")) xs) e in
    rw (not_is (x == byte ".") both.0, never_cut xs both.1) refl

numbers_read : (ip : List ℕ) → list_all (λ n. nat_le n 255) ip ≡ true → ip_numbers (map decimal ip) ≡ Some ip
numbers_read [] e = refl
numbers_read (n ∷ ip) e =
    let both = and_both (nat_le n 255) (list_all (λ n. nat_le n 255) ip) e in
    rw ((number_read n both.0).0, numbers_read ip both.1) refl

pieces_joined : (ip : List ℕ) → (ip ≡ [] → ⊥) → list_all (λ n. nat_le n 255) ip ≡ true → between_dots (join_with_byte 46 (map decimal ip)) ≡ map decimal ip
pieces_joined [] some e = absurd (some refl)
pieces_joined (a ∷ []) some e = never_cut (decimal a) (number_read a (and_both (nat_le a 255) true e).0).1
pieces_joined (a ∷ b ∷ ip) some e =
    let both = and_both (nat_le a 255) (list_all (λ n. nat_le n 255) (b ∷ ip)) e in
    cut_at (decimal a) (join_with_byte 46 (map decimal (b ∷ ip))) (number_read a both.0).1
    ∙ ap (λ (pieces : List (List ℕ)). decimal a ∷ pieces) (pieces_joined (b ∷ ip) (λ never. cc) both.1)

some_number : (ip : List ℕ) → length ip ≡ 4 → ip ≡ [] → ⊥
some_number [] e none = omega arith
some_number (a ∷ ip) e none = cc

pub text_read : (ip : List ℕ) → length ip ≡ 4 → list_all (λ n. nat_le n 255) ip ≡ true → ip_of (ip_text ip) ≡ Some ip
text_read ip four_long small =
    let is_four : (length ip == 4) ≡ true = eq-eqb (length ip) 4 four_long in
    let pieces : between_dots (ip_text ip) ≡ map decimal ip = ap between_dots (sym (four ip is_four)) ∙ pieces_joined ip (some_number ip four_long) small in
    let numbers : ip_numbers (between_dots (ip_text ip)) ≡ Some ip = ap ip_numbers pieces ∙ numbers_read ip small in
    rw numbers (rw is_four refl)
