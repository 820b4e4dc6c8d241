-- The front of a text whose bytes pass a test, and what follows it.
use Rattle.std.proofs.Common.{◌≡◌, ℕ, ◌^◌, Bool, true, false, cond, List, [], ◌∷◌, ◌++◌, length, drop, Some, None, refl, sym, ap, subst, ◌∙◌, arith, inl, inr, ◌⊎◌}
use Rattle.std.specs.Prelude.{take_while, not, ◌&&◌, nat_lt}
use Rattle.std.specs.List.{AllByRecursion, list_all}
use Rattle.std.specs.Char.{is_ascii_digit}
use Rattle.std.specs.Str.Parse.{digits_value}
use Rattle.std.proofs.lemmas.List.{drop_at}
use Rattle.std.proofs.lemmas.List.Sums.{take_while-cons}
use Rattle.std.proofs.lemmas.Bool.Decides.{nat_tests}
use Rattle.sip_text.specs.Lists.{is_blank, front_trimmed}
use Rattle.sip_text.specs.Words.{is_token_byte, decimal_of}
use Rattle.sip_text.specs.Cuts.{is_full, word_at, behind_word}

abbrev pub AllPassing : (ℕ → Bool) → List ℕ → Type 0
AllPassing p bytes = AllByRecursion (λ b. p b ≡ true) bytes

-- nothing, or what begins with a byte that doesn't pass
abbrev pub Stops : (ℕ → Bool) → List ℕ → Type 0
Stops p [] = Unit {0}
Stops p (b ∷ bs) = p b ≡ false

pub while_is : (p : ℕ → Bool) (front rest : List ℕ) → AllPassing p front → Stops p rest → take_while p (front ++ rest) ≡ front
while_is p [] [] all stops = refl
while_is p [] (b ∷ bs) all stops = take_while-cons p b bs ∙ rw stops refl
while_is p (a ∷ front) rest all stops = take_while-cons p a (front ++ rest) ∙ rw all.0 (ap (λ (w : List ℕ). a ∷ w) (while_is p front rest all.1 stops))

pub behind_is : (p : ℕ → Bool) (front rest : List ℕ) → AllPassing p front → Stops p rest → drop (length (take_while p (front ++ rest))) (front ++ rest) ≡ rest
behind_is p front rest all stops = ap (λ (w : List ℕ). drop (length w) (front ++ rest)) (while_is p front rest all stops) ∙ drop_at front rest (length front) refl

-- a text in front and rest
pub record IsSplit (p : ℕ → Bool) (bytes : List ℕ) : Type 0 where
  pub front : List ℕ
  pub rest : List ℕ
  pub whole : bytes ≡ front ++ rest
  pub passing : AllPassing p front
  pub stops : Stops p rest

split_step : (p : ℕ → Bool) (b : ℕ) (bytes : List ℕ) (t : Bool) → p b ≡ t → IsSplit p bytes → IsSplit p (b ∷ bytes)
split_step p b bytes true e s = record { front = b ∷ s.front; rest = s.rest; whole = ap (λ (w : List ℕ). b ∷ w) s.whole; passing = (e, s.passing); stops = s.stops }
split_step p b bytes false e s = record { front = []; rest = b ∷ bytes; whole = refl; passing = tt; stops = e }

pub split_of : (p : ℕ → Bool) (bytes : List ℕ) → IsSplit p bytes
split_of p [] = record { front = []; rest = []; whole = refl; passing = tt; stops = tt }
split_of p (b ∷ bytes) = split_step p b bytes (p b) refl (split_of p bytes)

pub front_is : (p : ℕ → Bool) (bytes : List ℕ) (s : IsSplit p bytes) → take_while p bytes ≡ s.front
front_is p bytes s = ap (take_while p) s.whole ∙ while_is p s.front s.rest s.passing s.stops

pub rest_is : (p : ℕ → Bool) (bytes : List ℕ) (s : IsSplit p bytes) → drop (length (take_while p bytes)) bytes ≡ s.rest
rest_is p bytes s = ap (λ (w : List ℕ). drop (length (take_while p w)) w) s.whole ∙ behind_is p s.front s.rest s.passing s.stops

-- ---- classes of bytes

and_both : (a b : Bool) → (a && b) ≡ true → (a ≡ true) × (b ≡ true)
and_both true b e = (refl, e)
and_both false b e = absurd cc

pub all_passing : (p : ℕ → Bool) (bytes : List ℕ) → list_all p bytes ≡ true → AllPassing p bytes
all_passing p [] e = tt
all_passing p (b ∷ bs) e =
    let both = and_both (p b) (list_all p bs) e in
    (both.0, all_passing p bs both.1)

pub all_weaker : (p q : ℕ → Bool) (bytes : List ℕ) → ((b : ℕ) → p b ≡ true → q b ≡ true) → AllPassing p bytes → AllPassing q bytes
all_weaker p q [] weaker all = tt
all_weaker p q (b ∷ bs) weaker all = (weaker b all.0, all_weaker p q bs weaker all.1)

digit_is_full : (b : ℕ) → is_ascii_digit b ≡ true → is_full b ≡ true
digit_is_full b e = grind (arith, nat_tests)

if_some : (t : Bool) (n m : ℕ) → cond t (Some n) None ≡ Some m → t ≡ true
if_some true n m e = refl
if_some false n m e = absurd cc

pub number_is_full : (digits : List ℕ) (n : ℕ) → decimal_of digits ≡ Some n → AllPassing is_full digits
number_is_full [] n e = tt
number_is_full (d ∷ ds) n e =
    all_weaker is_ascii_digit is_full (d ∷ ds) digit_is_full
    (all_passing is_ascii_digit (d ∷ ds) (and_both (list_all is_ascii_digit (d ∷ ds)) (nat_lt (digits_value 10 (d ∷ ds)) (2 ^ 64))
    (if_some (list_all is_ascii_digit (d ∷ ds) && nat_lt (digits_value 10 (d ∷ ds)) (2 ^ 64)) _ n e)).0)

pub not_blank : (b : ℕ) → is_full b ≡ true → is_blank b ≡ false
not_blank b e = by_test (is_blank b) e
  where
    by_test : (t : Bool) → not t ≡ true → t ≡ false
    by_test true e = absurd cc
    by_test false e = refl

pub blank_not_full : (b : ℕ) → is_blank b ≡ true → is_full b ≡ false
blank_not_full b e = rw e refl

blank_or : (b : ℕ) → is_blank b ≡ true → (b ≡ 32) ⊎ (b ≡ 9)
blank_or b e = grind arith

pub token_is_full : (b : ℕ) → is_token_byte b ≡ true → is_full b ≡ true
token_is_full b e = by_test (is_blank b) refl
  where
    by_test : (t : Bool) → is_blank b ≡ t → not t ≡ true
    by_test false is = refl
    by_test true is = elim (blank_or b is) [ inl s ↦ absurd (no_space (ap is_token_byte (sym s) ∙ e)) | inr t ↦ absurd (no_tab (ap is_token_byte (sym t) ∙ e)) ]
      where
        no_space : is_token_byte 32 ≡ true → ⊥
        no_space h = cc

        no_tab : is_token_byte 9 ≡ true → ⊥
        no_tab h = cc

-- ---- a word, blanks and what follows them

pub record IsWordCut (text word rest : List ℕ) : Type 0 where
  pub is_word : word_at text ≡ word
  pub is_rest : behind_word text ≡ rest

pub word_cut : (word : List ℕ) (blank : ℕ) (blanks rest : List ℕ) → AllPassing is_full word → AllPassing is_blank (blank ∷ blanks) → Stops is_blank rest
    → IsWordCut (word ++ ((blank ∷ blanks) ++ rest)) word rest
word_cut word blank blanks rest full are_blank stops =
    let next : Stops is_full ((blank ∷ blanks) ++ rest) = blank_not_full blank are_blank.0 in
    record {
      is_word = while_is is_full word ((blank ∷ blanks) ++ rest) full next;
      is_rest = ap front_trimmed (behind_is is_full word ((blank ∷ blanks) ++ rest) full next) ∙ behind_is is_blank (blank ∷ blanks) rest are_blank stops;
    }

-- how a text is cut behind its first word: with blanks there, or at its end
pub record IsCutText (text : List ℕ) : Type 0 where
  pub word : List ℕ
  pub blanks : List ℕ
  pub rest : List ℕ
  pub whole : text ≡ word ++ (blanks ++ rest)
  pub full : AllPassing is_full word
  pub are_blank : AllPassing is_blank blanks
  pub next : Stops is_full (blanks ++ rest)
  pub stops : Stops is_blank rest
  pub is_word : word_at text ≡ word
  pub is_rest : behind_word text ≡ rest

pub cut_text : (text : List ℕ) → IsCutText text
cut_text text =
    let s : IsSplit is_full text = split_of is_full text in
    let r : IsSplit is_blank s.rest = split_of is_blank s.rest in
    record {
      word = s.front;
      blanks = r.front;
      rest = r.rest;
      whole = s.whole ∙ ap (λ (w : List ℕ). s.front ++ w) r.whole;
      full = s.passing;
      are_blank = r.passing;
      next = subst (Stops is_full) r.whole s.stops;
      stops = r.stops;
      is_word = front_is is_full text s;
      is_rest = ap front_trimmed (rest_is is_full text s) ∙ rest_is is_blank s.rest r;
    }
