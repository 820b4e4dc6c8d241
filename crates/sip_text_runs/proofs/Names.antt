-- The name at the front of a line.
use Rattle.std.proofs.Common.{◌≡◌, ℕ, zero, suc, ◌+◌, ◌<◌, ◌≤◌, Bool, true, false, List, [], ◌∷◌, length, take, get_or, refl, sym, ap, subst, ◌∙◌, arith, inl, inr}
use Rattle.std.specs.Prelude.{◌||◌, ◌==◌, codes}
use Rattle.std.specs.Int.{is_in_range}
use Rattle.std.specs.List.{take_while, prefix_len, list_all, list_any}
use Rattle.std.proofs.lemmas.Bool.{cases_lt}
use Rattle.std.proofs.lemmas.List.{get_or-take, length-take, length-take-le}
use Rattle.std.proofs.lemmas.List.Folds.{list_all_at}
use Rattle.std.proofs.lemmas.List.Sums.{prefix_len-le-length, prefix_len_stops}
use Rattle.httparse.specs.Pieces.{IsRunIn}
use Rattle.httparse.proofs.LaneLemmas.{all_pass}
use Rattle.sip_text.specs.Words.{is_token_byte, token_at}
use Rattle.sip_text_runs.specs.Name.{is_letter_or_dash, IsNameEnd}
use Rattle.sip_text_runs.proofs.TextRuns.{all_weaker}

-- ---- letters and dashes

pub letters_pass : (line : List ℕ) (run : ℕ) → IsRunIn is_letter_or_dash line 0 16 run → 16 ≤ length line → list_all is_letter_or_dash (take run line) ≡ true
letters_pass line run is fits =
    all_pass is_letter_or_dash (take run line) (λ k from to.
    let below : k < run = omega (arith, length-take run line) in
    subst (λ (b : ℕ). is_letter_or_dash b ≡ true) (sym (get_or-take run line k 0 below)) (is.0.1 k from (omega (arith, below))))

by_tests : (digit upper lower dash other : Bool) → ((upper || lower) || dash) ≡ true → (((digit || upper) || lower) || (dash || other)) ≡ true
by_tests true upper lower dash other e = refl
by_tests false true lower dash other e = refl
by_tests false false true dash other e = refl
by_tests false false false true other e = refl
by_tests false false false false other e = absurd cc

letter_token : (b : ℕ) → is_letter_or_dash b ≡ true → is_token_byte b ≡ true
letter_token b e = by_tests (is_in_range 48 57 b) (is_in_range 65 90 b) (is_in_range 97 122 b) (b == 45) (list_any (λ c. b == c) (codes ".!%*_+`'~")) e

pub letters_token : (line : List ℕ) (run : ℕ) → IsRunIn is_letter_or_dash line 0 16 run → 16 ≤ length line → list_all is_token_byte (take run line) ≡ true
letters_token line run is fits = all_weaker is_letter_or_dash is_token_byte letter_token (take run line) (letters_pass line run is fits)

-- a mark that ends a name stands where the run ends
pub at_run : (bytes : List ℕ) (mark run at : ℕ) → IsRunIn is_letter_or_dash bytes 0 16 run → IsNameEnd bytes mark at → at ≡ run
at_run bytes mark run at is ends = elim (cases_lt at run) [
  | inl early ↦
      let clash : true ≡ false = sym (is.0.1 at (omega arith) (omega (arith, early))) ∙ ap is_letter_or_dash ends.here ∙ ends.ends in
      absurd cc
  | inr late ↦ elim (cases_lt run at) [
    | inl more ↦
        let fits : run < length (take at bytes) = omega (arith, length-take at bytes, ends.long, ends.early, more) in
        let here : get_or (take at bytes) run 0 ≡ get_or bytes (0 + run) 0 = get_or-take at bytes run 0 more ∙ ap (λ (n : ℕ). get_or bytes n 0) (omega arith) in
        let clash : true ≡ false = sym ends.letters ∙ list_all_at is_letter_or_dash (take at bytes) run 0 fits
        (ap is_letter_or_dash here ∙ is.1 (omega (arith, more, ends.early))) in
        absurd cc
    | inr less ↦ omega (arith, late, less)
  ]
]

-- ---- a token

front_cut : (k : ℕ) (xs : List ℕ) → take k xs ≡ take (length (take k xs)) xs
front_cut zero xs = refl
front_cut (suc k) [] = refl
front_cut (suc k) (x ∷ xs) = ap (λ (w : List ℕ). x ∷ w) (front_cut k xs)

while_one : (p : ℕ → Bool) (x : ℕ) (xs : List ℕ) (t : Bool) → p x ≡ t → list_all p (take_while p xs) ≡ true → list_all p (take_while p (x ∷ xs)) ≡ true
while_one p x xs true is rest =
    let more : 1 + prefix_len p xs ≡ suc (prefix_len p xs) = omega arith in
    let all : list_all p (x ∷ take_while p xs) ≡ true = rw is rest in
    let here : take_while p (x ∷ xs) ≡ x ∷ take_while p xs = rw is (ap (λ (n : ℕ). take n (x ∷ xs)) more) in
    ap (list_all p) here ∙ all
while_one p x xs false is rest = rw is refl

while_all : (p : ℕ → Bool) (xs : List ℕ) → list_all p (take_while p xs) ≡ true
while_all p [] = refl
while_all p (x ∷ xs) = while_one p x xs (p x) refl (while_all p xs)

pub token : (line name : List ℕ) → name ≡ token_at line → list_all is_token_byte (take (length name) line) ≡ true
token line name is =
    let front : take (length name) line ≡ name = ap (λ (w : List ℕ). take (length w) line) is ∙ sym (front_cut (prefix_len is_token_byte line) line) ∙ sym is in
    ap (list_all is_token_byte) (front ∙ is) ∙ while_all is_token_byte line

-- no byte of a token stands behind it
pub token_stops : (line name : List ℕ) (at : ℕ) → name ≡ token_at line → at ≡ length name → at < length line → is_token_byte (get_or line at 0) ≡ false
token_stops line name at is size fits =
    let end : at ≡ prefix_len is_token_byte line = size ∙ ap length is ∙ length-take-le (prefix_len is_token_byte line) line (prefix_len-le-length is_token_byte line) in
    ap (λ (n : ℕ). is_token_byte (get_or line n 0)) end ∙ prefix_len_stops is_token_byte line 0 (omega (arith, end, fits))
