-- A value writes a CSeq exactly where it is read as that.
use Rattle.std.proofs.Common.{◌≡◌, ℕ, ◌^◌, ◌<◌, Bool, true, false, cond, List, [], ◌∷◌, ◌++◌, Option, Some, None, refl, sym, ap, subst, ◌∙◌, arith}
use Rattle.std.specs.Prelude.{nat_lt, ◌&&◌}
use Rattle.std.specs.Option.{option_and_then}
use Rattle.std.specs.List.{list_all}
use Rattle.std.proofs.lemmas.Bool.Decides.{nat_tests}
use Rattle.sip_text.specs.Lists.{is_blank}
use Rattle.sip_text.specs.Words.{is_token_byte, is_token_text, decimal_of}
use Rattle.sip_text.specs.Cuts.{is_full, behind_word}
use Rattle.sip_header.specs.CSeq.{IsCSeq, cseq_from, cseq_of}
use Rattle.sip_header.specs.declared.cseq.CSeq.{CSeq}
use Rattle.sip_header.proofs.Words.{AllPassing, Stops, IsWordCut, word_cut, IsCutText, cut_text, number_is_full, token_is_full, not_blank}

token_stops : (method : List ℕ) → is_token_text method ≡ true → Stops is_blank method
token_stops [] e = tt
token_stops (m ∷ ms) e = not_blank m (token_is_full m (first (is_token_byte m) (list_all is_token_byte ms) e))
  where
    first : (a b : Bool) → (a && b) ≡ true → a ≡ true
    first true b e = refl
    first false b e = absurd cc

below : (n : ℕ) → n < 2 ^ 31 → nat_lt n (2 ^ 31) ≡ true
below n lt = grind (arith, nat_tests)

pub read_back : (value : List ℕ) (cseq : CSeq) → IsCSeq value cseq → cseq_of value ≡ Some cseq
read_back value cseq is =
    let c : IsWordCut (is.digits ++ ((is.blank ∷ is.blanks) ++ cseq.method)) is.digits cseq.method =
    word_cut is.digits is.blank is.blanks cseq.method (number_is_full is.digits cseq.number is.is_number) is.are_blank (token_stops cseq.method is.is_token) in
    let lt : nat_lt cseq.number (2 ^ 31) ≡ true = below cseq.number is.is_below in
    let from : cseq_from cseq.method cseq.number ≡ Some cseq = rw (lt, is.is_token) refl in
    ap cseq_of is.whole ∙ ap (λ (d : List ℕ). option_and_then (cseq_from (behind_word (is.digits ++ ((is.blank ∷ is.blanks) ++ cseq.method)))) (decimal_of d)) c.is_word
    ∙ ap (λ (m : List ℕ). option_and_then (cseq_from m) (decimal_of is.digits)) c.is_rest ∙ ap (option_and_then (cseq_from cseq.method)) is.is_number ∙ from

-- what a reading from a number says
record IsFrom (method : List ℕ) (number : ℕ) (cseq : CSeq) : Type 0 where
  number_is : number ≡ cseq.number
  method_is : method ≡ cseq.method
  is_below : number < 2 ^ 31
  is_token : is_token_text method ≡ true

below_back : (n : ℕ) → nat_lt n (2 ^ 31) ≡ true → n < 2 ^ 31
below_back n e = grind (arith, nat_tests)

from_by : (method : List ℕ) (number : ℕ) (cseq : CSeq) (a b : Bool) → nat_lt number (2 ^ 31) ≡ a → is_token_text method ≡ b
    → cond a (cond b (Some (record { number = number; method = method })) None) None ≡ Some cseq → IsFrom method number cseq
from_by method number cseq false b lt token e = absurd cc
from_by method number cseq true false lt token e = absurd cc
from_by method number cseq true true lt token e =
    let same : ◌≡◌ {A = CSeq} (record { number = number; method = method }) cseq = cc in
    record { number_is = ap (λ (c : CSeq). c.number) same; method_is = ap (λ (c : CSeq). c.method) same; is_below = below_back number lt; is_token = token }

written_by : (value : List ℕ) (cseq : CSeq) (cut : IsCutText value) (number : ℕ) → decimal_of cut.word ≡ Some number → IsFrom cut.rest number cseq → IsCSeq value cseq
written_by value cseq cut number is_number from = with_blanks cut.blanks cut.are_blank cut.next cut.whole
  where
    rest_full : (rest : List ℕ) → is_token_text rest ≡ true → Stops is_full rest → ⊥
    rest_full [] token stops = cc
    rest_full (m ∷ ms) token stops = no (token_is_full m (first (is_token_byte m) (list_all is_token_byte ms) token)) stops
      where
        first : (a b : Bool) → (a && b) ≡ true → a ≡ true
        first true b e = refl
        first false b e = absurd cc

        no : is_full m ≡ true → is_full m ≡ false → ⊥
        no yes_full no_full = cc

    with_blanks : (blanks : List ℕ) → AllPassing is_blank blanks → Stops is_full (blanks ++ cut.rest) → value ≡ cut.word ++ (blanks ++ cut.rest) → IsCSeq value cseq
    with_blanks [] are next whole = absurd (rest_full cut.rest from.is_token next)
    with_blanks (b ∷ bs) are next whole =
        record {
          digits = cut.word;
          blank = b;
          blanks = bs;
          whole = whole ∙ ap (λ (m : List ℕ). cut.word ++ ((b ∷ bs) ++ m)) from.method_is;
          are_blank = are;
          is_number = is_number ∙ ap (λ (n : ℕ). Some n) from.number_is;
          is_below = subst (λ (n : ℕ). n < 2 ^ 31) from.number_is from.is_below;
          is_token = ap is_token_text (sym from.method_is) ∙ from.is_token;
        }

by_number : (value : List ℕ) (cseq : CSeq) (cut : IsCutText value) (o : Option ℕ) → decimal_of cut.word ≡ o → option_and_then (cseq_from cut.rest) o ≡ Some cseq
    → IsCSeq value cseq
by_number value cseq cut None is e = absurd cc
by_number value cseq cut (Some number) is e = written_by value cseq cut number is (from_by cut.rest number cseq (nat_lt number (2 ^ 31)) (is_token_text cut.rest) refl
    refl e)

pub is_written : (value : List ℕ) (cseq : CSeq) → cseq_of value ≡ Some cseq → IsCSeq value cseq
is_written value cseq e =
    let cut : IsCutText value = cut_text value in
    by_number value cseq cut (decimal_of cut.word) refl
    (ap (λ (m : List ℕ). option_and_then (cseq_from m) (decimal_of cut.word)) (sym cut.is_rest)
    ∙ ap (λ (d : List ℕ). option_and_then (cseq_from (behind_word value)) (decimal_of d)) (sym cut.is_word) ∙ e)
