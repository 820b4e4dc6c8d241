-- The text of a datagram, read: what a byte's text says, and that each datagram has one text.
use Rattle.std.proofs.Common.{◌≡◌, ℕ, suc, ◌+◌, ◌-◌, ◌*◌, ◌/◌, ◌%◌, ◌<◌, ◌≤◌, Bool, true, false, cond, List, [], ◌∷◌, ◌++◌, length, take, drop, Option, Some, None}
use Rattle.std.proofs.Common.{refl, sym, ap, ap₂, ◌∙◌, arith, inl, inr, append_assoc, append-nil, eqb-true, length-drop, take-append-drop, get_or}
use Rattle.std.specs.Prelude.{◌⊎◌, ◌==◌, ◌&&◌, ◌||◌, not, nat_le, nat_lt, is_some, option_map, slice_index}
use Rattle.std.specs.List.{list_all}
use Rattle.std.specs.Option.{option_and_then}
use Rattle.std.proofs.lemmas.Bool.{agree_below_at, cond-false, cond-true, ne_eqb, or_cases}
use Rattle.std.proofs.lemmas.Bool.Decides.{nat_tests}
use Rattle.std.proofs.lemmas.List.{get_or-drop}
use Rattle.std.proofs.lemmas.Option.{cond_some}
use Rattle.hex.specs.Hex.{lower_digits, IsBytes}
use Rattle.sip_digest.specs.NonceText.{lower_value}
use Rattle.sip_uri.proofs.Tests.{and_both}
use Rattle.sip_replay_script.specs.Escaped.{Begun, Nothing, Mark, Digit, Step, Byte, Part, Bad, BeginsOther}
use Rattle.sip_replay_script.specs.Escaped.{byte_text, digits_byte, escaped, has_digits, if_digits, is_plain, letter_byte, said_by, step, text_bytes_of, unescaped}
use Rattle.sip_replay_script.specs.Escaped.{unescaped_from, whole_or, with_byte}
use Rattle.sip_replay_script.proofs.ByteTexts.{cr_text, digits_text, escaped_first, escaped_none, escaped_some, lf_text, mark_text, plain_text}

-- ---- the front of a text

plain_said : (b : ℕ) (rest : List ℕ) → is_plain b ≡ true → unescaped (b ∷ rest) ≡ with_byte b (unescaped rest)
plain_said b rest is =
    ap (λ (s : Step). said_by s (λ next. unescaped_from rest next)) (cond-true (is_plain b) (Byte b) (cond (b == 92) (Part Mark) Bad) is)

bad_said : (b : ℕ) (rest : List ℕ) → is_plain b ≡ false → (b == 92) ≡ false → unescaped (b ∷ rest) ≡ None
bad_said b rest plain mark =
    ap (λ (s : Step). said_by s (λ next. unescaped_from rest next))
    (cond-false (is_plain b) (Byte b) (cond (b == 92) (Part Mark) Bad) plain ∙ cond-false (b == 92) (Part Mark) Bad mark)

pub none_first : (text : List ℕ) → length text ≡ 0 → BeginsOther text → unescaped text ≡ None
none_first text none other = absurd (let some : 0 < length text = other.0 in omega (arith, none, some))

pub other_first : (text : List ℕ) (b : ℕ) (rest : List ℕ) → text ≡ b ∷ rest → BeginsOther text → (b ≡ 92 → ⊥) → unescaped text ≡ None
other_first text b rest is other mark =
    let plain : is_plain b ≡ false = ap (λ (l : List ℕ). is_plain (slice_index l 0)) (sym is) ∙ other.1 in
    ap unescaped is ∙ bad_said b rest plain (ne_eqb b 92 mark)

pub mark_goes : (text : List ℕ) (b : ℕ) (rest : List ℕ) (said : Option (List ℕ)) → text ≡ b ∷ rest → b ≡ 92 → unescaped_from rest Mark ≡ said → unescaped text ≡ said
mark_goes text b rest said is mark goes = ap unescaped (is ∙ ap (λ (n : ℕ). n ∷ rest) mark) ∙ goes

pub mark_only : (text : List ℕ) → length text ≡ 0 → unescaped_from text Mark ≡ None
mark_only [] none = refl
mark_only (b ∷ text) none = absurd (omega (arith, none))

pub letter_said : (text : List ℕ) (c : ℕ) (rest : List ℕ) (b : ℕ) (o : Option ℕ) → text ≡ c ∷ rest → o ≡ letter_byte c → o ≡ Some b
    → unescaped_from text Mark ≡ with_byte b (unescaped rest)
letter_said text c rest b o is letter some =
    ap (λ (l : List ℕ). unescaped_from l Mark) is
    ∙ ap (λ (p : Option ℕ). said_by (whole_or (Part (Digit c)) p) (λ next. unescaped_from rest next)) (sym letter ∙ some)

pub letter_goes : (text : List ℕ) (c : ℕ) (rest : List ℕ) (said : Option (List ℕ)) (o : Option ℕ) → text ≡ c ∷ rest → o ≡ letter_byte c → o ≡ None
    → unescaped_from rest (Digit c) ≡ said → unescaped_from text Mark ≡ said
letter_goes text c rest said o is letter none goes =
    ap (λ (l : List ℕ). unescaped_from l Mark) is
    ∙ ap (λ (p : Option ℕ). said_by (whole_or (Part (Digit c)) p) (λ next. unescaped_from rest next)) (sym letter ∙ none) ∙ goes

pub digit_only : (text : List ℕ) (high : ℕ) → length text ≡ 0 → unescaped_from text (Digit high) ≡ None
digit_only [] high none = refl
digit_only (b ∷ text) high none = absurd (omega (arith, none))

pub digit_said : (text : List ℕ) (high low : ℕ) (rest : List ℕ) (b : ℕ) (o : Option ℕ) → text ≡ low ∷ rest → o ≡ digits_byte high low → o ≡ Some b
    → unescaped_from text (Digit high) ≡ with_byte b (unescaped rest)
digit_said text high low rest b o is digits some =
    ap (λ (l : List ℕ). unescaped_from l (Digit high)) is
    ∙ ap (λ (p : Option ℕ). said_by (whole_or Bad p) (λ next. unescaped_from rest next)) (sym digits ∙ some)

pub digit_bad : (text : List ℕ) (high low : ℕ) (rest : List ℕ) (o : Option ℕ) → text ≡ low ∷ rest → o ≡ digits_byte high low → o ≡ None
    → unescaped_from text (Digit high) ≡ None
digit_bad text high low rest o is digits none =
    ap (λ (l : List ℕ). unescaped_from l (Digit high)) is
    ∙ ap (λ (p : Option ℕ). said_by (whole_or Bad p) (λ next. unescaped_from rest next)) (sym digits ∙ none)

-- ---- runs that stand for themselves, and what stands in front

abbrev pub with_front : List ℕ → Option (List ℕ) → Option (List ℕ)
with_front front said = option_map (λ bytes. front ++ bytes) said

front_twice : (a b : List ℕ) (o : Option (List ℕ)) → with_front a (with_front b o) ≡ with_front (a ++ b) o
front_twice a b None = refl
front_twice a b (Some v) = ap (λ (w : List ℕ). Some w) (sym (append_assoc a b v))

front_nil : (o : Option (List ℕ)) → with_front [] o ≡ o
front_nil None = refl
front_nil (Some v) = refl

run_said : (run rest : List ℕ) → list_all is_plain run ≡ true → unescaped (run ++ rest) ≡ with_front run (unescaped rest)
run_said [] rest all = sym (front_nil (unescaped rest))
run_said (b ∷ run) rest all =
    let both = and_both (is_plain b) (list_all is_plain run) all in
    plain_said b (run ++ rest) both.0 ∙ ap (with_byte b) (run_said run rest both.1) ∙ front_twice (b ∷ []) run (unescaped rest)

cut_said : (text : List ℕ) (at : ℕ) → list_all is_plain (take at text) ≡ true → unescaped text ≡ with_front (take at text) (unescaped (drop at text))
cut_said text at plain = ap unescaped (sym (take-append-drop at text)) ∙ run_said (take at text) (drop at text) plain

pub begins_other : (text : List ℕ) (at : ℕ) → at < length text → is_plain (slice_index text at) ≡ false → BeginsOther (drop at text)
begins_other text at inside other =
    let here : at + 0 ≡ at = omega arith in
    (omega (arith, inside, length-drop at text), ap is_plain (get_or-drop at text 0 0 ∙ ap (λ (n : ℕ). get_or text n 0) here) ∙ other)

pub goes_on : (front text after : List ℕ) (at b : ℕ) (total : Option (List ℕ)) → list_all is_plain (take at text) ≡ true
    → unescaped (drop at text) ≡ with_byte b (unescaped after) → with_front front (unescaped text) ≡ total
    → with_front ((front ++ take at text) ++ b ∷ []) (unescaped after) ≡ total
goes_on front text after at b total plain here so_far =
    sym (front_twice (front ++ take at text) (b ∷ []) (unescaped after)) ∙ sym (front_twice front (take at text) (with_byte b (unescaped after)))
    ∙ ap (λ (o : Option (List ℕ)). with_front front (with_front (take at text) o)) (sym here) ∙ ap (with_front front) (sym (cut_said text at plain)) ∙ so_far

pub is_bad : (front text : List ℕ) (at : ℕ) (total : Option (List ℕ)) → list_all is_plain (take at text) ≡ true → unescaped (drop at text) ≡ None
    → with_front front (unescaped text) ≡ total → total ≡ None
is_bad front text at total plain here so_far =
    sym so_far ∙ ap (with_front front) (cut_said text at plain ∙ ap (with_front (take at text)) here)

pub ends : (front text : List ℕ) (total : Option (List ℕ)) → list_all is_plain text ≡ true → with_front front (unescaped text) ≡ total → total ≡ Some (front ++ text)
ends front text total plain so_far =
    let all : unescaped text ≡ Some (text ++ []) = ap unescaped (sym (append-nil text)) ∙ run_said text [] plain in
    sym so_far ∙ ap (with_front front) (all ∙ ap (λ (w : List ℕ). Some w) (append-nil text))

-- ---- digits

-- the digit of a value
abbrev glyph : ℕ → ℕ
glyph value = cond (nat_lt value 10) (48 + value) (87 + value)

record IsGlyph (c value : ℕ) : Type 0 where
  small : value < 16
  is : c ≡ glyph value

number_glyph : (c : ℕ) → (nat_le 48 c && nat_le c 57) ≡ true → IsGlyph c (c - 48)
number_glyph c is = record { small = grind (arith, nat_tests); is = grind (arith, nat_tests) }

letter_glyph : (c : ℕ) → (nat_le 97 c && nat_le c 102) ≡ true → IsGlyph c (c - 87)
letter_glyph c is = record { small = grind (arith, nat_tests); is = grind (arith, nat_tests) }

glyph_by : (c value : ℕ) (t u : Bool) → (nat_le 48 c && nat_le c 57) ≡ t → (nat_le 97 c && nat_le c 102) ≡ u
    → cond t (Some (c - 48)) (cond u (Some (c - 87)) None) ≡ Some value → IsGlyph c value
glyph_by c value true u e f g =
    let same : c - 48 ≡ value = cc in
    rw same at (number_glyph c e)
glyph_by c value false true e f g =
    let same : c - 87 ≡ value = cc in
    rw same at (letter_glyph c f)
glyph_by c value false false e f g = absurd cc

glyph_is : (value : ℕ) → value < 16 → slice_index lower_digits value ≡ glyph value
glyph_is value lt =
    eqb-true (slice_index lower_digits value) (glyph value) (agree_below_at (λ (v : ℕ). slice_index lower_digits v == glyph v) (λ _. true) 16 value refl lt)

-- a digit in lower case, by its value
record IsDigit (c value : ℕ) : Type 0 where
  small : value < 16
  is : slice_index lower_digits value ≡ c

is_digit : (c value : ℕ) → lower_value c ≡ Some value → IsDigit c value
is_digit c value e =
    let g : IsGlyph c value = glyph_by c value (nat_le 48 c && nat_le c 57) (nat_le 97 c && nat_le c 102) refl refl e in
    record { small = g.small; is = glyph_is value g.small ∙ sym g.is }

is_value : ℕ → Option ℕ → Bool
is_value n None = false
is_value n (Some m) = m == n

value_is : (n : ℕ) (o : Option ℕ) → is_value n o ≡ true → o ≡ Some n
unfolding is_value
value_is n None e = absurd cc
value_is n (Some m) e = ap (λ (k : ℕ). Some k) (eqb-true m n e)

digit_reads : (value : ℕ) → value < 16 → lower_value (slice_index lower_digits value) ≡ Some value
unfolding is_value
digit_reads value lt =
    value_is value (lower_value (slice_index lower_digits value))
    (agree_below_at (λ v. is_value v (lower_value (slice_index lower_digits v))) (λ _. true) 16 value refl lt)

none_is : (o : Option ℕ) → is_some o ≡ false → o ≡ None
none_is None e = refl
none_is (Some n) e = absurd cc

-- no digit is a letter that stands for a byte
digit_is_none : (value : ℕ) → value < 16 → letter_byte (slice_index lower_digits value) ≡ None
digit_is_none value lt =
    none_is (letter_byte (slice_index lower_digits value))
    (agree_below_at (λ v. is_some (letter_byte (slice_index lower_digits v))) (λ _. false) 16 value refl lt)

-- the values of two digits that say a byte
record HasValues (high low b : ℕ) : Type 0 where
  first : ℕ
  second : ℕ
  is_first : IsDigit high first
  is_second : IsDigit low second
  reads : lower_value high ≡ Some first
  value : 16 * first + second ≡ b
  has : has_digits b ≡ true

values_by : (high low b : ℕ) (o p : Option ℕ) → lower_value high ≡ o → lower_value low ≡ p
    → option_and_then (λ h. option_and_then (λ l. if_digits (16 * h + l)) p) o ≡ Some b → HasValues high low b
values_by high low b None p e f g = absurd cc
values_by high low b (Some h) None e f g = absurd cc
values_by high low b (Some h) (Some l) e f g =
    let got = cond_some (has_digits (16 * h + l)) (16 * h + l) b g in
    record {
      first = h;
      second = l;
      is_first = is_digit high h e;
      is_second = is_digit low l f;
      reads = e;
      value = got.1;
      has = ap has_digits (sym got.1) ∙ got.0;
    }

values : (high low b : ℕ) → digits_byte high low ≡ Some b → HasValues high low b
values high low b e = values_by high low b (lower_value high) (lower_value low) refl refl e

-- what two digits say is written with them
digits_written : (high low b : ℕ) → digits_byte high low ≡ Some b → 92 ∷ high ∷ low ∷ [] ≡ byte_text b
digits_written high low b e =
    let v : HasValues high low b = values high low b e in
    let whole : 16 * v.first + v.second ≡ b = v.value in
    let small : v.second < 16 = v.is_second.small in
    let above : b / 16 ≡ v.first = omega (arith, whole, small) in
    let below : b % 16 ≡ v.second = omega (arith, whole, small) in
    sym (digits_text b v.has
    ∙ ap₂ (λ (h l : ℕ). 92 ∷ h ∷ l ∷ []) (ap (λ (n : ℕ). slice_index lower_digits n) above ∙ v.is_first.is)
    (ap (λ (n : ℕ). slice_index lower_digits n) below ∙ v.is_second.is))

-- digits that say a byte, by their values
digits_said : (high low first second : ℕ) → lower_value high ≡ Some first → lower_value low ≡ Some second → has_digits (16 * first + second) ≡ true
    → digits_byte high low ≡ Some (16 * first + second)
digits_said high low first second e f has =
    ap (λ (o : Option ℕ). option_and_then (λ h. option_and_then (λ l. if_digits (16 * h + l)) (lower_value low)) o) e
    ∙ ap (λ (o : Option ℕ). option_and_then (λ l. if_digits (16 * first + l)) o) f
    ∙ cond-true (has_digits (16 * first + second)) (Some (16 * first + second)) None has

-- and what is written with digits is said by them
digits_again : (b : ℕ) → b < 256 → has_digits b ≡ true → digits_byte (slice_index lower_digits (b / 16)) (slice_index lower_digits (b % 16)) ≡ Some b
digits_again b lt has =
    let whole : 16 * (b / 16) + b % 16 ≡ b = omega arith in
    digits_said (slice_index lower_digits (b / 16)) (slice_index lower_digits (b % 16)) (b / 16) (b % 16) (digit_reads (b / 16) (omega (arith, lt)))
    (digit_reads (b % 16) (omega arith)) (ap has_digits whole ∙ has)
    ∙ ap (λ (n : ℕ). Some n) whole

-- ---- what was written is read

-- a byte, by the form that its text has
byte_by : (b : ℕ) (rest : List ℕ) (p q r s : Bool) → b < 256 → is_plain b ≡ p → (b == 13) ≡ q → (b == 10) ≡ r → (b == 92) ≡ s
    → unescaped (byte_text b ++ rest) ≡ with_byte b (unescaped rest)
byte_by b rest true q r s lt plain cr lf mark = ap (λ (l : List ℕ). unescaped (l ++ rest)) (plain_text b plain) ∙ plain_said b rest plain
byte_by b rest false true r s lt plain cr lf mark =
    let is : b ≡ 13 = eqb-true b 13 cr in
    ap (λ (l : List ℕ). unescaped (l ++ rest)) (cr_text b is) ∙ ap (λ (n : ℕ). with_byte n (unescaped rest)) (sym is)
byte_by b rest false false true s lt plain cr lf mark =
    let is : b ≡ 10 = eqb-true b 10 lf in
    ap (λ (l : List ℕ). unescaped (l ++ rest)) (lf_text b is) ∙ ap (λ (n : ℕ). with_byte n (unescaped rest)) (sym is)
byte_by b rest false false false true lt plain cr lf mark =
    let is : b ≡ 92 = eqb-true b 92 mark in
    ap (λ (l : List ℕ). unescaped (l ++ rest)) (mark_text b is) ∙ ap (λ (n : ℕ). with_byte n (unescaped rest)) (sym is)
byte_by b rest false false false false lt plain cr lf mark =
    let has : has_digits b ≡ true = ap₂ (λ (t u : Bool). not (t || u)) plain (ap₂ (λ (t u : Bool). t || u) cr (ap₂ (λ (t u : Bool). t || u) lf mark)) in
    let high : ℕ = slice_index lower_digits (b / 16) in
    let low : ℕ = slice_index lower_digits (b % 16) in
    ap (λ (l : List ℕ). unescaped (l ++ rest)) (digits_text b has)
    ∙ letter_goes (high ∷ low ∷ rest) high (low ∷ rest) (with_byte b (unescaped rest)) None refl (sym (digit_is_none (b / 16) (omega (arith, lt)))) refl
    (digit_said (low ∷ rest) high low rest b (Some b) refl (sym (digits_again b lt has)) refl)

byte_said : (b : ℕ) (rest : List ℕ) → b < 256 → unescaped (byte_text b ++ rest) ≡ with_byte b (unescaped rest)
byte_said b rest lt = byte_by b rest (is_plain b) (b == 13) (b == 10) (b == 92) lt refl refl refl refl

unescaped_again : (bytes : List ℕ) → IsBytes bytes → unescaped (escaped bytes) ≡ Some bytes
unescaped_again [] are = ap unescaped escaped_none
unescaped_again (b ∷ bytes) are =
    ap unescaped (escaped_first b bytes) ∙ byte_said b (escaped bytes) (are 0) ∙ ap (with_byte b) (unescaped_again bytes (λ i. are (suc i)))

pub text_again : (bytes : List ℕ) → IsBytes bytes → 0 < length bytes → text_bytes_of (escaped bytes) ≡ Some bytes
text_again bytes are some =
    let more : 0 < length (escaped bytes) = escaped_some bytes some in
    cond-false (length (escaped bytes) == 0) None (unescaped (escaped bytes)) (ne_eqb (length (escaped bytes)) 0 (λ e. omega (arith, e, more)))
    ∙ unescaped_again bytes are

-- ---- what is read is what was written

-- what has come of a byte's text
pending : Begun → List ℕ
pending Nothing = []
pending Mark = 92 ∷ []
pending (Digit high) = 92 ∷ high ∷ []

first_byte : (c b : ℕ) (p m : Bool) → is_plain c ≡ p → cond p (Byte c) (cond m (Part Mark) Bad) ≡ Byte b → c ∷ [] ≡ byte_text b
first_byte c b true m is e = let same : c ≡ b = cc in sym (plain_text c is) ∙ ap byte_text same
first_byte c b false true is e = absurd cc
first_byte c b false false is e = absurd cc

letter_by : (c b : ℕ) (s t u : Bool) → (c == 114) ≡ s → (c == 110) ≡ t → (c == 92) ≡ u → cond s (Some 13) (cond t (Some 10) (cond u (Some 92) None)) ≡ Some b
    → 92 ∷ c ∷ [] ≡ byte_text b
letter_by c b true t u r n m e = let same : b ≡ 13 = cc in ap (λ (k : ℕ). 92 ∷ k ∷ []) (eqb-true c 114 r) ∙ sym (cr_text b same)
letter_by c b false true u r n m e = let same : b ≡ 10 = cc in ap (λ (k : ℕ). 92 ∷ k ∷ []) (eqb-true c 110 n) ∙ sym (lf_text b same)
letter_by c b false false true r n m e = let same : b ≡ 92 = cc in ap (λ (k : ℕ). 92 ∷ k ∷ []) (eqb-true c 92 m) ∙ sym (mark_text b same)
letter_by c b false false false r n m e = absurd cc

mark_byte : (c b : ℕ) (o : Option ℕ) → letter_byte c ≡ o → whole_or (Part (Digit c)) o ≡ Byte b → 92 ∷ c ∷ [] ≡ byte_text b
mark_byte c b None is e = absurd cc
mark_byte c b (Some v) is e =
    let same : v ≡ b = cc in
    letter_by c b (c == 114) (c == 110) (c == 92) refl refl refl (is ∙ ap (λ (n : ℕ). Some n) same)

digit_byte : (high c b : ℕ) (o : Option ℕ) → digits_byte high c ≡ o → whole_or Bad o ≡ Byte b → 92 ∷ high ∷ c ∷ [] ≡ byte_text b
digit_byte high c b None is e = absurd cc
digit_byte high c b (Some v) is e = let same : v ≡ b = cc in digits_written high c b (is ∙ ap (λ (n : ℕ). Some n) same)

-- a byte's text that is whole now
step_byte : (begun : Begun) (c b : ℕ) → step begun c ≡ Byte b → pending begun ++ c ∷ [] ≡ byte_text b
unfolding pending
step_byte Nothing c b e = first_byte c b (is_plain c) (c == 92) refl e
step_byte Mark c b e = mark_byte c b (letter_byte c) refl e
step_byte (Digit high) c b e = digit_byte high c b (digits_byte high c) refl e

first_part : (c : ℕ) (next : Begun) (p m : Bool) → (c == 92) ≡ m → cond p (Byte c) (cond m (Part Mark) Bad) ≡ Part next → c ∷ [] ≡ pending next
unfolding pending
first_part c next true m is e = absurd cc
first_part c next false true is e = let same : Mark ≡ next = cc in ap (λ (k : ℕ). k ∷ []) (eqb-true c 92 is) ∙ ap pending same
first_part c next false false is e = absurd cc

mark_part : (c : ℕ) (next : Begun) (o : Option ℕ) → whole_or (Part (Digit c)) o ≡ Part next → 92 ∷ c ∷ [] ≡ pending next
unfolding pending
mark_part c next None e = let same : Digit c ≡ next = cc in ap pending same
mark_part c next (Some v) e = absurd cc

digit_part : (high c : ℕ) (next : Begun) (o : Option ℕ) → whole_or Bad o ≡ Part next → 92 ∷ high ∷ c ∷ [] ≡ pending next
digit_part high c next None e = absurd cc
digit_part high c next (Some v) e = absurd cc

-- and one that isn't yet
step_part : (begun next : Begun) (c : ℕ) → step begun c ≡ Part next → pending begun ++ c ∷ [] ≡ pending next
unfolding pending
step_part Nothing next c e = first_part c next (is_plain c) (c == 92) refl e
step_part Mark next c e = mark_part c next (letter_byte c) e
step_part (Digit high) next c e = digit_part high c next (digits_byte high c) e

-- a byte in front of what is said
record Behind (b : ℕ) (said : Option (List ℕ)) (bytes : List ℕ) : Type 0 where
  rest : List ℕ
  says : said ≡ Some rest
  is : b ∷ rest ≡ bytes

behind_byte : (b : ℕ) (said : Option (List ℕ)) (bytes : List ℕ) → with_byte b said ≡ Some bytes → Behind b said bytes
behind_byte b None bytes e = absurd cc
behind_byte b (Some rest) bytes e = let same : b ∷ rest ≡ bytes = cc in record { rest = rest; says = refl; is = same }

written_by : (text : List ℕ) (begun : Begun) (c : ℕ) (bytes : List ℕ) (s : Step) → step begun c ≡ s
    → said_by s (λ next. unescaped_from text next) ≡ Some bytes
    → ((next : Begun) (said : List ℕ) → unescaped_from text next ≡ Some said → pending next ++ text ≡ escaped said) → pending begun ++ c ∷ text ≡ escaped bytes
unfolding pending
written_by text begun c bytes (Byte b) is e later =
    let h : Behind b (unescaped text) bytes = behind_byte b (unescaped text) bytes e in
    sym (append_assoc (pending begun) (c ∷ []) text) ∙ ap (λ (l : List ℕ). l ++ text) (step_byte begun c b is)
    ∙ ap (λ (l : List ℕ). byte_text b ++ l) (later Nothing h.rest h.says) ∙ sym (escaped_first b h.rest) ∙ ap escaped h.is
written_by text begun c bytes (Part next) is e later =
    sym (append_assoc (pending begun) (c ∷ []) text) ∙ ap (λ (l : List ℕ). l ++ text) (step_part begun next c is) ∙ later next bytes e
written_by text begun c bytes Bad is e later = absurd cc

written : (text : List ℕ) (begun : Begun) (bytes : List ℕ) → unescaped_from text begun ≡ Some bytes → pending begun ++ text ≡ escaped bytes
unfolding pending
written [] Nothing bytes e = let same : [] ≡ bytes = cc in sym escaped_none ∙ ap escaped same
written [] Mark bytes e = absurd cc
written [] (Digit high) bytes e = absurd cc
written (c ∷ text) begun bytes e = written_by text begun c bytes (step begun c) refl e (λ next said f. written text next said f)

pub some_said : (text bytes : List ℕ) (t : Bool) → (length text == 0) ≡ t → cond t None (unescaped text) ≡ Some bytes
    → ((length text == 0) ≡ false) × (unescaped text ≡ Some bytes)
some_said text bytes true is e = absurd cc
some_said text bytes false is e = (is, e)

pub text_written : (text bytes : List ℕ) → text_bytes_of text ≡ Some bytes → text ≡ escaped bytes
unfolding pending
text_written text bytes e = written text Nothing bytes (some_said text bytes (length text == 0) refl e).1

-- ---- a text that was cut

-- how it goes on
pub record Ended (text : List ℕ) (begun : Begun) (more tail : List ℕ) : Type 0 where
  pub short : length tail ≤ length more
  pub bytes : List ℕ
  pub says : unescaped_from (text ++ tail) begun ≡ Some bytes

-- not at all, by a letter, or by one of two digits
abbrev pub EndsBy : List ℕ → Begun → List ℕ → Type 0
EndsBy text begun more =
    Ended text begun more [] ⊎ (Ended text begun more (110 ∷ []) ⊎ (Ended text begun more (48 ∷ []) ⊎ Ended text begun more (102 ∷ [])))

-- where a digit says something behind another one, 0 or f does
either_digit : (b : ℕ) → b < 256 → has_digits b ≡ true → (has_digits (16 * (b / 16) + 0) || has_digits (16 * (b / 16) + 15)) ≡ true
either_digit b lt has =
    sym (ap (λ (t : Bool). not t || (has_digits (16 * (b / 16) + 0) || has_digits (16 * (b / 16) + 15))) has)
    ∙ agree_below_at (λ (n : ℕ). not (has_digits n) || (has_digits (16 * (n / 16) + 0) || has_digits (16 * (n / 16) + 15))) (λ _. true) 256 b refl lt

digit_ends : (high low b : ℕ) (more : List ℕ) → digits_byte high low ≡ Some b → EndsBy [] (Digit high) (low ∷ more)
digit_ends high low b more e =
    let v : HasValues high low b = values high low b e in
    let whole : 16 * v.first + v.second ≡ b = v.value in
    let first : v.first < 16 = v.is_first.small in
    let second : v.second < 16 = v.is_second.small in
    let above : v.first ≡ b / 16 = omega (arith, whole, second) in
    let either : (has_digits (16 * v.first + 0) || has_digits (16 * v.first + 15)) ≡ true =
    ap (λ (n : ℕ). has_digits (16 * n + 0) || has_digits (16 * n + 15)) above ∙ either_digit b (omega (arith, whole, first, second)) v.has in
    elim (or_cases (has_digits (16 * v.first + 0)) (has_digits (16 * v.first + 15)) either) [
      | inl least ↦ inr (inr (inl (record {
        short = omega arith;
        bytes = (16 * v.first + 0) ∷ [];
        says = digit_said (48 ∷ []) high 48 [] (16 * v.first + 0) (digits_byte high 48) refl refl (digits_said high 48 v.first 0 v.reads refl least);
      })))
      | inr most ↦ inr (inr (inr (record {
        short = omega arith;
        bytes = (16 * v.first + 15) ∷ [];
        says = digit_said (102 ∷ []) high 102 [] (16 * v.first + 15) (digits_byte high 102) refl refl (digits_said high 102 v.first 15 v.reads refl most);
      })))
    ]

digit_ends_by : (high low : ℕ) (more bytes : List ℕ) (o : Option ℕ) → digits_byte high low ≡ o → said_by (whole_or Bad o) (λ next. unescaped_from more next) ≡ Some bytes
    → EndsBy [] (Digit high) (low ∷ more)
digit_ends_by high low more bytes None is e = absurd cc
digit_ends_by high low more bytes (Some b) is e = digit_ends high low b more is

-- a byte more in front
ends_on : (text other : List ℕ) (next begun : Begun) (more : List ℕ) → ((tail : List ℕ) → Ended text next more tail → Ended other begun more tail)
    → EndsBy text next more → EndsBy other begun more
ends_on text other next begun more on (inl d) = inl (on [] d)
ends_on text other next begun more on (inr (inl d)) = inr (inl (on (110 ∷ []) d))
ends_on text other next begun more on (inr (inr (inl d))) = inr (inr (inl (on (48 ∷ []) d)))
ends_on text other next begun more on (inr (inr (inr d))) = inr (inr (inr (on (102 ∷ []) d)))

ended_byte : (text : List ℕ) (begun : Begun) (c b : ℕ) (more tail : List ℕ) → step begun c ≡ Byte b → Ended text Nothing more tail → Ended (c ∷ text) begun more tail
ended_byte text begun c b more tail is d = record {
  short = d.short;
  bytes = b ∷ d.bytes;
  says = ap (λ (s : Step). said_by s (λ next. unescaped_from (text ++ tail) next)) is ∙ ap (with_byte b) d.says;
}

ended_part : (text : List ℕ) (begun next : Begun) (c : ℕ) (more tail : List ℕ) → step begun c ≡ Part next → Ended text next more tail → Ended (c ∷ text) begun more tail
ended_part text begun next c more tail is d = record {
  short = d.short;
  bytes = d.bytes;
  says = ap (λ (s : Step). said_by s (λ next. unescaped_from (text ++ tail) next)) is ∙ d.says;
}

ends_by : (text : List ℕ) (begun : Begun) (c : ℕ) (more bytes : List ℕ) (s : Step) → step begun c ≡ s
    → said_by s (λ next. unescaped_from (text ++ more) next) ≡ Some bytes
    → ((next : Begun) (said : List ℕ) → unescaped_from (text ++ more) next ≡ Some said → EndsBy text next more) → EndsBy (c ∷ text) begun more
ends_by text begun c more bytes (Byte b) is e later =
    let h : Behind b (unescaped (text ++ more)) bytes = behind_byte b (unescaped (text ++ more)) bytes e in
    ends_on text (c ∷ text) Nothing begun more (λ tail d. ended_byte text begun c b more tail is d) (later Nothing h.rest h.says)
ends_by text begun c more bytes (Part next) is e later =
    ends_on text (c ∷ text) next begun more (λ tail d. ended_part text begun next c more tail is d) (later next bytes e)
ends_by text begun c more bytes Bad is e later = absurd cc

pub text_ends : (text : List ℕ) (begun : Begun) (more bytes : List ℕ) → unescaped_from (text ++ more) begun ≡ Some bytes → EndsBy text begun more
text_ends [] Nothing more bytes e = inl (record { short = omega arith; bytes = []; says = refl })
text_ends [] Mark [] bytes e = absurd cc
text_ends [] Mark (m ∷ more) bytes e = inr (inl (record { short = omega arith; bytes = 10 ∷ []; says = refl }))
text_ends [] (Digit high) [] bytes e = absurd cc
text_ends [] (Digit high) (m ∷ more) bytes e = digit_ends_by high m more bytes (digits_byte high m) refl e
text_ends (c ∷ text) begun more bytes e = ends_by text begun c more bytes (step begun c) refl e (λ next said f. text_ends text next more said f)
