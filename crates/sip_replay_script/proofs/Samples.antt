-- Fields that were cut: each goes on by an end of a sample, which is as short as such a field can be.
use Rattle.std.proofs.Common.{◌≡◌, ℕ, zero, suc, ◌+◌, ◌*◌, ◌%◌, ◌^◌, ◌<◌, ◌≤◌, Bool, true, false, List, [], ◌∷◌, ◌++◌, length, decimal, get_or, Option, Some, None}
use Rattle.std.proofs.Common.{Result, Ok, Err, refl, sym, ap, subst, ◌∙◌, arith, inl, inr, append_assoc, append-nil, length-append, if◌then◌else◌}
use Rattle.std.specs.Prelude.{◌==◌, codes}
use Rattle.std.specs.List.{list_all, AllPass}
use Rattle.std.specs.Option.{option_and_then}
use Rattle.std.specs.Result.{result_ok}
use Rattle.std.specs.Char.{is_ascii_digit, digit_value}
use Rattle.std.specs.Str.{all_ascii_digits}
use Rattle.std.specs.Str.Parse.{digits_value, digits_value_after}
use Rattle.std.proofs.lemmas.Str.Parse.{numerals_by_value, tells_all_ascii_digits}
use Rattle.std.proofs.lemmas.Fmt.{decimal_nonempty, digits_value-decimal, first_decimal}
use Rattle.std.proofs.lemmas.Bool.{cases_eq, cases_lt, ne_eqb}
use Rattle.std.proofs.lemmas.List.Elements.{All-append, All-cons}
use Rattle.hex.specs.Hex.{decode_of, is_hex_digit}
use Rattle.hex.proofs.HexLemmas.{decode_of-ok, decode_of-digits}
use Rattle.hex.specs.declared.error.FromHexError.{FromHexError}
use Rattle.sip_text.specs.Numbers.{has_leading_zero, hex_bytes_of}
use Rattle.sip_text.proofs.PlainDecimals.{digits_alone, plain_read, written_digits}
use Rattle.sip_uri.proofs.Tests.{and_both}
use Rattle.sip_digest.specs.NonceText.{word_of, read_lower, lower_value}
use Rattle.sip_digest.proofs.NonceTexts.{names}
use Rattle.sip_digest.proofs.LowerTexts.{word_is}
use Rattle.sip_replay_script.proofs.CutEvents.{cut_at, head_is, tail_is}
use Rattle.sip_replay_script.proofs.HeadAtOnce.{is_digit}

-- a text goes on by an end of the sample, which is no longer than what it went on by
pub record Finished (A : List ℕ → Type 0) (sample text more : List ℕ) : Type 0 where
  pub front : List ℕ
  pub tail : List ℕ
  pub cut : sample ≡ front ++ tail
  pub short : length tail ≤ length more
  pub accepts : A (text ++ tail)

-- wherever a field is cut, it goes on so
pub record HasSample (A : List ℕ → Type 0) (sample : List ℕ) : Type 0 where
  pub whole : A sample
  pub shortest : (text : List ℕ) → A text → length sample ≤ length text
  pub finishes : (text more : List ℕ) → A (text ++ more) → Finished A sample text more

-- ---- a word that is given

abbrev pub IsWhole : List ℕ → List ℕ → Type 0
IsWhole word text = text ≡ word

pub word_sample : (word : List ℕ) → HasSample (IsWhole word) word
word_sample word = record {
  whole = refl;
  shortest = λ text e. omega (arith, ap length e);
  finishes = λ text more e. record { front = text; tail = more; cut = sym e; short = omega arith; accepts = e };
}

-- ---- two fields, and a byte between them

pub record Parts (A B : List ℕ → Type 0) (mark : ℕ) (text : List ℕ) : Type 0 where
  pub first : List ℕ
  pub second : List ℕ
  pub cut : text ≡ first ++ mark ∷ second
  pub is_first : A first
  pub is_second : B second

module _ (A B : List ℕ → Type 0) (mark : ℕ) (s t : List ℕ) (a : HasSample A s) (b : HasSample B t) where
  in_first : (text more m second : List ℕ) → text ++ more ≡ (text ++ m) ++ mark ∷ second → A (text ++ m) → B second → Finished (Parts A B mark) (s ++ mark ∷ t) text more
  in_first text more m second e is_first is_second =
      let f = a.finishes text m is_first in
      let least : length t ≤ length second = b.shortest second is_second in
      let fits : length f.tail ≤ length m = f.short in
      let one : length (text ++ more) ≡ length text + length more = length-append text more in
      let two : length ((text ++ m) ++ mark ∷ second) ≡ length (text ++ m) + length (mark ∷ second) = length-append (text ++ m) (mark ∷ second) in
      let three : length (text ++ m) ≡ length text + length m = length-append text m in
      let four : length (f.tail ++ mark ∷ t) ≡ length f.tail + length (mark ∷ t) = length-append f.tail (mark ∷ t) in
      record {
        front = f.front;
        tail = f.tail ++ mark ∷ t;
        cut = ap (λ (l : List ℕ). l ++ mark ∷ t) f.cut ∙ append_assoc f.front f.tail (mark ∷ t);
        short = omega (arith, fits, least, ap length e, one, two, three, four);
        accepts = record { first = text ++ f.tail; second = t; cut = sym (append_assoc text f.tail (mark ∷ t)); is_first = f.accepts; is_second = b.whole };
      }

  in_second : (text more first m second : List ℕ) → text ≡ first ++ mark ∷ m → second ≡ m ++ more → A first → B second
      → Finished (Parts A B mark) (s ++ mark ∷ t) text more
  in_second text more first m second cut rest is_first is_second =
      let g = b.finishes m more (subst B rest is_second) in
      record {
        front = s ++ mark ∷ g.front;
        tail = g.tail;
        cut = ap (λ (l : List ℕ). s ++ mark ∷ l) g.cut ∙ sym (append_assoc s (mark ∷ g.front) g.tail);
        short = g.short;
        accepts = record {
          first = first;
          second = m ++ g.tail;
          cut = ap (λ (l : List ℕ). l ++ g.tail) cut ∙ append_assoc first (mark ∷ m) g.tail;
          is_first = is_first;
          is_second = g.accepts;
        };
      }

  at_mark : (text more first m second : List ℕ) → text ≡ first ++ m → mark ∷ second ≡ m ++ more → A first → B second → Finished (Parts A B mark) (s ++ mark ∷ t) text more
  at_mark text more first [] second cut rest is_first is_second =
      let same : first ≡ text ++ [] = sym (append-nil first) ∙ sym cut ∙ sym (append-nil text) in
      in_first text more [] second (ap (λ (l : List ℕ). text ++ l) (sym rest) ∙ ap (λ (l : List ℕ). l ++ mark ∷ second) (sym (append-nil text))) (subst A same is_first)
      is_second
  at_mark text more first (x ∷ m) second cut rest is_first is_second =
      let here : mark ≡ x = head_is mark x second (m ++ more) rest in
      in_second text more first m second (cut ∙ ap (λ (k : ℕ). first ++ k ∷ m) (sym here)) (tail_is mark x second (m ++ more) rest) is_first is_second

  both_finish : (text more : List ℕ) → Parts A B mark (text ++ more) → Finished (Parts A B mark) (s ++ mark ∷ t) text more
  both_finish text more p =
      elim (cut_at p.first (mark ∷ p.second) text more (sym p.cut)) [
        | inl c ↦ in_first text more c.more p.second (p.cut ∙ ap (λ (l : List ℕ). l ++ mark ∷ p.second) c.is) (subst A c.is p.is_first) p.is_second
        | inr c ↦ at_mark text more p.first c.more p.second c.is c.left p.is_first p.is_second
      ]

  pub both_sample : HasSample (Parts A B mark) (s ++ mark ∷ t)
  both_sample = record {
    whole = record { first = s; second = t; cut = refl; is_first = a.whole; is_second = b.whole };
    shortest = λ text p.
        let one : length s ≤ length p.first = a.shortest p.first p.is_first in
        let two : length t ≤ length p.second = b.shortest p.second p.is_second in
        let three : length (s ++ mark ∷ t) ≡ length s + length (mark ∷ t) = length-append s (mark ∷ t) in
        let four : length (p.first ++ mark ∷ p.second) ≡ length p.first + length (mark ∷ p.second) = length-append p.first (mark ∷ p.second) in
        omega (arith, ap length p.cut, one, two, three, four);
    finishes = both_finish;
  }

-- ---- a number in decimal

pub record IsNumber (least limit : ℕ) (text : List ℕ) : Type 0 where
  pub number : ℕ
  pub written : text ≡ decimal number
  pub some : least ≤ number
  pub below : number < limit

all_front : (p : ℕ → Bool) (xs ys : List ℕ) → list_all p (xs ++ ys) ≡ true → list_all p xs ≡ true
all_front p [] ys e = refl
all_front p (x ∷ xs) ys e =
    let both = and_both (p x) (list_all p (xs ++ ys)) e in
    let later : list_all p xs ≡ true = all_front p xs ys both.1 in
    rw (both.0, later) refl

front_zero : (xs ys : List ℕ) → has_leading_zero (xs ++ ys) ≡ false → has_leading_zero xs ≡ false
front_zero [] ys e = refl
front_zero (x ∷ []) ys e = refl
front_zero (x ∷ y ∷ xs) ys e = e

no_zero : (t : Bool) (o : Option ℕ) (n : ℕ) → (if t then None else o) ≡ Some n → t ≡ false
no_zero true o n e = absurd cc
no_zero false o n e = refl

value_on : (n : ℕ) (xs ys : List ℕ) → digits_value_after 10 n (xs ++ ys) ≡ digits_value_after 10 (digits_value_after 10 n xs) ys
value_on n [] ys = refl
value_on n (x ∷ xs) ys = value_on (n * 10 + digit_value x) xs ys

grows : (n : ℕ) (bs : List ℕ) → n ≤ digits_value_after 10 n bs
grows n [] = omega arith
grows n (b ∷ bs) = omega (arith, grows (n * 10 + digit_value b) bs)

-- a front of a number's digits writes no larger one
record WritesLess (text : List ℕ) (n : ℕ) : Type 0 where
  number : ℕ
  written : text ≡ decimal number
  some : 0 < n → 0 < number
  less : number ≤ n

front_written : (d : ℕ) (ds more : List ℕ) (n : ℕ) → (d ∷ ds) ++ more ≡ decimal n → n < 2 ^ 64 → WritesLess (d ∷ ds) n
front_written d ds more n e lt =
    let digits : list_all is_ascii_digit ((d ∷ ds) ++ more) ≡ true = ap (list_all is_ascii_digit) e ∙ digits_alone n lt in
    let front : list_all is_ascii_digit (d ∷ ds) ≡ true = all_front is_ascii_digit (d ∷ ds) more digits in
    let zeros : has_leading_zero ((d ∷ ds) ++ more) ≡ false = ap has_leading_zero e ∙ no_zero (has_leading_zero (decimal n)) _ n (plain_read n lt) in
    let value : digits_value 10 (decimal n) ≡ n = digits_value-decimal (numerals_by_value (λ ds. all_ascii_digits ds ≡ true) tells_all_ascii_digits) n lt in
    let whole : digits_value_after 10 (digits_value 10 (d ∷ ds)) more ≡ n = sym (value_on 0 (d ∷ ds) more) ∙ ap (digits_value 10) e ∙ value in
    let less : digits_value 10 (d ∷ ds) ≤ digits_value_after 10 (digits_value 10 (d ∷ ds)) more = grows (digits_value 10 (d ∷ ds)) more in
    let digit = is_digit d (and_both (is_ascii_digit d) (list_all is_ascii_digit ds) front).0 in
    let first : digit_value d ≤ digits_value 10 (d ∷ ds) = (let on : 0 * 10 + digit_value d ≤ digits_value_after 10 (0 * 10 + digit_value d) ds =
    grows (0 * 10 + digit_value d) ds in omega (arith, on)) in
    record {
      number = digits_value 10 (d ∷ ds);
      written = written_digits (d ∷ ds) (omega arith) front (front_zero (d ∷ ds) more zeros) (omega (arith, whole, less, lt));
      some = λ some.
          let above : 48 < get_or (decimal n) 0 0 = first_decimal n some lt in
          let same : d ≡ get_or (decimal n) 0 0 = ap (λ (l : List ℕ). get_or l 0 0) e in
          omega (arith, above, same, digit.0, first);
      less = omega (arith, whole, less);
    }

module _ (least limit digit : ℕ) (written : digit ∷ [] ≡ decimal least) (small : least ≤ 1) (below : least < limit) (fits : limit ≤ 2 ^ 64) where
  number_long : (text : List ℕ) → IsNumber least limit text → 1 ≤ length text
  number_long text is =
      let lt : is.number < limit = is.below in
      let some : 0 < length (decimal is.number) = decimal_nonempty is.number (omega (arith, lt, fits)) in
      omega (arith, some, ap length is.written)

  number_whole : IsNumber least limit (digit ∷ [])
  number_whole = record { number = least; written = written; some = omega arith; below = below }

  number_finishes : (text more : List ℕ) → IsNumber least limit (text ++ more) → Finished (IsNumber least limit) (digit ∷ []) text more
  number_finishes [] more is = record { front = []; tail = digit ∷ []; cut = refl; short = number_long more is; accepts = number_whole }
  number_finishes (d ∷ ds) more is =
      let lt : is.number < limit = is.below in
      let some : least ≤ is.number = is.some in
      let w : WritesLess (d ∷ ds) is.number = front_written d ds more is.number is.written (omega (arith, lt, fits)) in
      let less : w.number ≤ is.number = w.less in
      let all : least ≤ w.number = elim (cases_lt 0 is.number) [
        | inl above ↦ (let over : 0 < w.number = w.some above in omega (arith, over, small))
        | inr under ↦ omega (arith, under, some)
      ] in
      record {
        front = digit ∷ [];
        tail = [];
        cut = refl;
        short = omega arith;
        accepts = record { number = w.number; written = append-nil (d ∷ ds) ∙ w.written; some = all; below = omega (arith, less, lt) };
      }

  pub number_sample : HasSample (IsNumber least limit) (digit ∷ [])
  number_sample = record { whole = number_whole; shortest = number_long; finishes = number_finishes }

-- ---- a word

pub record IsWord (text : List ℕ) : Type 0 where
  pub word : ℕ
  pub says : word_of text ≡ Some word

zeros : ℕ → List ℕ
zeros zero = []
zeros (suc n) = 48 ∷ zeros n

length_zeros : (n : ℕ) → length (zeros n) ≡ n
unfolding zeros
length_zeros zero = refl
length_zeros (suc n) = let e : length (zeros n) ≡ n = length_zeros n in omega (arith, e)

zeros_cut : (m n k : ℕ) → k ≡ m + n → zeros k ≡ zeros m ++ zeros n
unfolding zeros
zeros_cut zero n k e = let same : k ≡ n = omega (arith, e) in ap zeros same
zeros_cut (suc m) n k e =
    let same : k ≡ suc (m + n) = omega (arith, e) in
    ap zeros same ∙ ap (λ (l : List ℕ). 48 ∷ l) (zeros_cut m n (m + n) refl)

-- the number that is read of digits
record Reads (n : ℕ) (text : List ℕ) : Type 0 where
  number : ℕ
  is : read_lower n text ≡ Some number

front_by : (n : ℕ) (xs ys : List ℕ) (w : ℕ) → ((d : ℕ) → read_lower (n * 16 + d) (xs ++ ys) ≡ Some w → Reads (n * 16 + d) xs) → (o : Option ℕ)
    → option_and_then (λ d. read_lower (n * 16 + d) (xs ++ ys)) o ≡ Some w → (m : ℕ) × (option_and_then (λ d. read_lower (n * 16 + d) xs) o ≡ Some m)
front_by n xs ys w on None e = absurd cc
front_by n xs ys w on (Some d) e = ((on d e).number, (on d e).is)

front_read : (n : ℕ) (xs ys : List ℕ) (w : ℕ) → read_lower n (xs ++ ys) ≡ Some w → Reads n xs
front_read n [] ys w e = record { number = n; is = refl }
front_read n (x ∷ xs) ys w e =
    let got = front_by n xs ys w (λ d. front_read (n * 16 + d) xs ys w) (lower_value x) e in
    record { number = got.0; is = got.1 }

on_by : (n : ℕ) (xs ys : List ℕ) (m w : ℕ) → ((d : ℕ) → read_lower (n * 16 + d) xs ≡ Some m → read_lower (n * 16 + d) (xs ++ ys) ≡ Some w) → (o : Option ℕ)
    → option_and_then (λ d. read_lower (n * 16 + d) xs) o ≡ Some m → option_and_then (λ d. read_lower (n * 16 + d) (xs ++ ys)) o ≡ Some w
on_by n xs ys m w on None e = absurd cc
on_by n xs ys m w on (Some d) e = on d e

read_on : (n : ℕ) (xs ys : List ℕ) (m w : ℕ) → read_lower n xs ≡ Some m → read_lower m ys ≡ Some w → read_lower n (xs ++ ys) ≡ Some w
read_on n [] ys m w e f = let same : n ≡ m = cc in ap (λ (k : ℕ). read_lower k ys) same ∙ f
read_on n (x ∷ xs) ys m w e f = on_by n xs ys m w (λ d g. read_on (n * 16 + d) xs ys m w g f) (lower_value x) e

zeros_read : (n k : ℕ) → Reads n (zeros k)
unfolding zeros
zeros_read n zero = record { number = n; is = refl }
zeros_read n (suc k) = let r = zeros_read (n * 16 + 0) k in record { number = r.number; is = r.is }

zeros_finish : (text more : List ℕ) → IsWord (text ++ more) → Finished IsWord (zeros 32) text more
zeros_finish text more is =
    let long : length (text ++ more) ≡ 32 = (names (text ++ more) is.word is.says).sized in
    let size : length (text ++ more) ≡ length text + length more = length-append text more in
    let front : Reads 0 text = front_read 0 text more is.word (word_is (text ++ more) long ∙ is.says) in
    let rest : Reads front.number (zeros (length more)) = zeros_read front.number (length more) in
    let none : length (zeros (length more)) ≡ length more = length_zeros (length more) in
    let whole : length (text ++ zeros (length more)) ≡ length text + length (zeros (length more)) = length-append text (zeros (length more)) in
    let all : length (text ++ zeros (length more)) ≡ 32 = omega (arith, long, size, none, whole) in
    record {
      front = zeros (length text);
      tail = zeros (length more);
      cut = zeros_cut (length text) (length more) 32 (omega (arith, long, size));
      short = omega (arith, none);
      accepts = record {
        word = rest.number;
        says = sym (word_is (text ++ zeros (length more)) all) ∙ read_on 0 text (zeros (length more)) front.number rest.number front.is rest.is;
      };
    }

zeros_sample : HasSample IsWord (zeros 32)
zeros_sample =
    let none : Reads 0 (zeros 32) = zeros_read 0 32 in
    record {
      whole = record { word = none.number; says = sym (word_is (zeros 32) (length_zeros 32)) ∙ none.is };
      shortest = λ text is. let long : length text ≡ 32 = (names text is.word is.says).sized in omega (arith, long, length_zeros 32);
      finishes = zeros_finish;
    }

zeros_are : zeros 32 ≡ codes "00000000000000000000000000000000"
unfolding zeros
zeros_are = refl

pub noughts_sample : HasSample IsWord (codes "00000000000000000000000000000000")
noughts_sample = subst (HasSample IsWord) zeros_are zeros_sample

-- ---- pairs of digits

pub record IsPairs (text : List ℕ) : Type 0 where
  pub bytes : List ℕ
  pub says : hex_bytes_of text ≡ Some bytes

record ArePairs (text : List ℕ) : Type 0 where
  some : 0 < length text
  even : length text % 2 ≡ 0
  digits : AllPass is_hex_digit text

ok_is : (r : Result (List ℕ) FromHexError) (bytes : List ℕ) → result_ok r ≡ Some bytes → r ≡ Ok bytes
ok_is (Ok x) bytes e = let same : x ≡ bytes = cc in ap (λ (l : List ℕ). Ok l) same
ok_is (Err x) bytes e = absurd cc

if_none : (t : Bool) (o : Option (List ℕ)) (bytes : List ℕ) → (if t then None else o) ≡ Some bytes → (t ≡ false) × (o ≡ Some bytes)
if_none true o bytes e = absurd cc
if_none false o bytes e = (refl, e)

some_length : (n : ℕ) → (n == 0) ≡ false → 0 < n
some_length zero e = absurd cc
some_length (suc n) e = omega arith

are_pairs : (text : List ℕ) → IsPairs text → ArePairs text
are_pairs text is =
    let got = if_none (length text == 0) (result_ok (decode_of text)) is.bytes is.says in
    let ok = decode_of-ok text is.bytes (ok_is (decode_of text) is.bytes got.1) in
    record { some = some_length (length text) got.0; even = ok.0; digits = ok.1 }

is_pairs : (text : List ℕ) → ArePairs text → IsPairs text
is_pairs text are =
    let bytes = decode_of-digits text are.even are.digits in
    let lt : 0 < length text = are.some in
    let some : (length text == 0) ≡ false = ne_eqb (length text) 0 (λ e. omega (arith, e, lt)) in
    record { bytes = bytes.0; says = rw some (ap result_ok bytes.1) }

digits_front : (xs ys : List ℕ) → AllPass is_hex_digit (xs ++ ys) → AllPass is_hex_digit xs
digits_front [] ys all = λ k d lt. absurd (omega (arith, lt))
digits_front (x ∷ xs) ys all =
    All-cons (λ (b : ℕ). is_hex_digit b ≡ true) x xs (all 0 0 (omega arith)) (digits_front xs ys (λ k d lt. all (suc k) d (omega (arith, lt))))

one_zero : AllPass is_hex_digit (48 ∷ [])
one_zero = All-cons (λ (b : ℕ). is_hex_digit b ≡ true) 48 [] refl (λ k d lt. absurd (omega (arith, lt)))

two_zeros : AllPass is_hex_digit (48 ∷ 48 ∷ [])
two_zeros = All-cons (λ (b : ℕ). is_hex_digit b ≡ true) 48 (48 ∷ []) refl one_zero

pairs_whole : IsPairs (48 ∷ 48 ∷ [])
pairs_whole = is_pairs (48 ∷ 48 ∷ []) (record { some = omega arith; even = refl; digits = two_zeros })

pairs_long : (text : List ℕ) → IsPairs text → 2 ≤ length text
pairs_long text is = let are : ArePairs text = are_pairs text is in let some : 0 < length text = are.some in let even : length text % 2 ≡ 0 = are.even in
    omega (arith, some, even)

pairs_finish : (text more : List ℕ) → IsPairs (text ++ more) → Finished IsPairs (48 ∷ 48 ∷ []) text more
pairs_finish [] more is = record { front = []; tail = 48 ∷ 48 ∷ []; cut = refl; short = pairs_long more is; accepts = pairs_whole }
pairs_finish (x ∷ xs) more is =
    let are : ArePairs ((x ∷ xs) ++ more) = are_pairs ((x ∷ xs) ++ more) is in
    let all : length ((x ∷ xs) ++ more) ≡ length (x ∷ xs) + length more = length-append (x ∷ xs) more in
    let even : length ((x ∷ xs) ++ more) % 2 ≡ 0 = are.even in
    let digits : AllPass is_hex_digit (x ∷ xs) = digits_front (x ∷ xs) more are.digits in
    elim (cases_eq (length (x ∷ xs) % 2) 0) [
      | inl whole ↦ record {
        front = 48 ∷ 48 ∷ [];
        tail = [];
        cut = refl;
        short = omega arith;
        accepts = subst IsPairs (sym (append-nil (x ∷ xs))) (is_pairs (x ∷ xs) (record { some = omega arith; even = whole; digits = digits }));
      }
      | inr odd ↦
          let long : length ((x ∷ xs) ++ 48 ∷ []) ≡ length (x ∷ xs) + 1 = length-append (x ∷ xs) (48 ∷ []) in
          record {
            front = 48 ∷ [];
            tail = 48 ∷ [];
            cut = refl;
            short = omega (arith, all, even, odd);
            accepts = is_pairs ((x ∷ xs) ++ 48 ∷ []) (record {
              some = omega (arith, long);
              even = omega (arith, long, odd);
              digits = All-append (λ (b : ℕ). is_hex_digit b ≡ true) (x ∷ xs) (48 ∷ []) digits one_zero;
            });
          }
    ]

pub pairs_sample : HasSample IsPairs (48 ∷ 48 ∷ [])
pairs_sample = record { whole = pairs_whole; shortest = pairs_long; finishes = pairs_finish }
