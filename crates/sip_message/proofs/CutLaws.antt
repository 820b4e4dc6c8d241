-- Lines are cut where they end, and nowhere else.
use Rattle.std.proofs.Common.{◌≡◌, ◌≢◌, ℕ, zero, suc, ◌<◌, Bool, true, false, List, [], ◌∷◌, ◌++◌, length, Option, Some, None, refl, sym, ap, ◌∙◌, append_assoc, arith}
use Rattle.std.specs.Prelude.{◌==◌, ◌&&◌, replicate}
use Rattle.std.specs.List.{AllByRecursion}
use Rattle.sip_message.specs.Lines.{is_crlf, after_blanks, line_at, lines_at, IsOneLine, IsLine, as_lines, IsCut}
use Rattle.sip_text.specs.Splits.{in_front}
use Rattle.sip_message.proofs.Cuts.{crlf_is}
use Rattle.sip_message.proofs.Rows.{by_line, line_first, by_first_line, shorter}

pub some_is : {A : Type 0} (x y : A) → Some x ≡ Some y → x ≡ y
some_is x y e = cc

pub pair_is : {A B : Type 0} (x y : A × B) → Some x ≡ Some y → (x.0 ≡ y.0) × (x.1 ≡ y.1)
pair_is x y e =
    let p : x ≡ y = some_is x y e in
    (ap (λ q. q.0) p, ap (λ q. q.1) p)

not_cr : (t : Bool) → (t && false) ≡ false
not_cr true = refl
not_cr false = refl

cr_is_no_end : (b : ℕ) → is_crlf b 13 ≡ false
cr_is_no_end b = not_cr (b == 13)

-- ---- the first line

pub line_again : (line rest : List ℕ) → IsOneLine line → line_at (line ++ 13 ∷ 10 ∷ rest) ≡ Some (line, rest)
line_again [] rest one = refl
line_again (b ∷ []) rest one = rw (cr_is_no_end b) refl
line_again (b ∷ c ∷ line) rest one = rw (one.0, line_again (c ∷ line) rest one.1) refl

pub record IsLineOf (bytes line rest : List ℕ) : Type 0 where
  pub whole : bytes ≡ line ++ 13 ∷ 10 ∷ rest
  pub one : IsOneLine line

longer_line : (b c : ℕ) (rest line after : List ℕ) → is_crlf b c ≡ false → IsLineOf (c ∷ rest) line after → IsLineOf (b ∷ c ∷ rest) (b ∷ line) after
longer_line b c rest [] after not_end is = record { whole = ap (λ (w : List ℕ). b ∷ w) is.whole; one = tt }
longer_line b c rest (d ∷ line) after not_end is =
    let same : c ≡ d = cc in
    record { whole = ap (λ (w : List ℕ). b ∷ w) is.whole; one = (ap (is_crlf b) (sym same) ∙ not_end, is.one) }

longer_found : (b c : ℕ) (rest line after : List ℕ) (o : Option (List ℕ × List ℕ)) → is_crlf b c ≡ false → in_front (b ∷ []) o ≡ Some (line, after)
    → ((x after : List ℕ) → o ≡ Some (x, after) → IsLineOf (c ∷ rest) x after) → IsLineOf (b ∷ c ∷ rest) line after
longer_found b c rest line after None not_end e is = absurd cc
longer_found b c rest line after (Some x) not_end e is =
    let p = pair_is (b ∷ x.0, x.1) (line, after) e in
    rw (← p.0, ← p.1) (longer_line b c rest x.0 x.1 not_end (is x.0 x.1 refl))

line_either : (b c : ℕ) (rest line after : List ℕ) (t : Bool) → is_crlf b c ≡ t → line_at (b ∷ c ∷ rest) ≡ Some (line, after)
    → ((x after : List ℕ) → line_at (c ∷ rest) ≡ Some (x, after) → IsLineOf (c ∷ rest) x after) → IsLineOf (b ∷ c ∷ rest) line after
line_either b c rest line after true is e on =
    let got : Some ([], rest) ≡ Some (line, after) = sym (rw is refl) ∙ e in
    let q = pair_is ([], rest) (line, after) got in
    let p = crlf_is b c is in
    rw (← q.0, ← q.1, p.0, p.1) (record { whole = refl; one = tt })
line_either b c rest line after false is e on =
    let one : line_at (b ∷ c ∷ rest) ≡ in_front (b ∷ []) (line_at (c ∷ rest)) = rw is refl in
    longer_found b c rest line after (line_at (c ∷ rest)) is (sym one ∙ e) on

pub line_of : (bytes line rest : List ℕ) → line_at bytes ≡ Some (line, rest) → IsLineOf bytes line rest
line_of [] line rest e = absurd cc
line_of (b ∷ []) line rest e = absurd cc
line_of (b ∷ c ∷ bytes) line rest e = line_either b c bytes line rest (is_crlf b c) refl e (λ x after h. line_of (c ∷ bytes) x after h)

-- ---- empty lines at the front

pub record IsAfterBlanks (bytes rest : List ℕ) : Type 0 where
  pub blanks : ℕ
  pub whole : bytes ≡ as_lines (replicate blanks []) ++ rest

blanks_either : (b c : ℕ) (rest : List ℕ) (t : Bool) → is_crlf b c ≡ t → IsAfterBlanks rest (after_blanks rest)
    → IsAfterBlanks (b ∷ c ∷ rest) (after_blanks (b ∷ c ∷ rest))
blanks_either b c rest true is later =
    let p = crlf_is b c is in
    rw (p.0, p.1) (record { blanks = suc later.blanks; whole = ap (λ (w : List ℕ). 13 ∷ 10 ∷ w) later.whole })
blanks_either b c rest false is later = rw is (record { blanks = 0; whole = refl })

pub blanks_of : (bytes : List ℕ) → IsAfterBlanks bytes (after_blanks bytes)
blanks_of [] = record { blanks = 0; whole = refl }
blanks_of (b ∷ []) = record { blanks = 0; whole = refl }
blanks_of (b ∷ c ∷ bytes) = blanks_either b c bytes (is_crlf b c) refl (blanks_of bytes)

-- a line is no empty line
pub blanks_stop : (line rest : List ℕ) → IsLine line → after_blanks (line ++ 13 ∷ 10 ∷ rest) ≡ line ++ 13 ∷ 10 ∷ rest
blanks_stop [] rest is = absurd (is.1 refl)
blanks_stop (b ∷ []) rest is = rw (cr_is_no_end b) refl
blanks_stop (b ∷ c ∷ line) rest is = rw is.0.0 refl

pub blanks_again : (n : ℕ) (line rest : List ℕ) → IsLine line → after_blanks (as_lines (replicate n []) ++ (line ++ 13 ∷ 10 ∷ rest)) ≡ line ++ 13 ∷ 10 ∷ rest
blanks_again zero line rest is = blanks_stop line rest is
blanks_again (suc n) line rest is = blanks_again n line rest is

-- ---- the lines of the fields

pub lines_again : (lines : List (List ℕ)) (rest : List ℕ) → AllByRecursion IsLine lines → lines_at false (as_lines lines ++ 13 ∷ 10 ∷ rest) ≡ Some (lines, rest)
lines_again [] rest are = refl
lines_again ([] ∷ lines) rest are = absurd (are.0.1 refl)
lines_again ((b ∷ line) ∷ lines) rest are =
    let grouped : as_lines ((b ∷ line) ∷ lines) ++ 13 ∷ 10 ∷ rest ≡ (b ∷ line) ++ 13 ∷ 10 ∷ (as_lines lines ++ 13 ∷ 10 ∷ rest) =
    ap (λ (w : List ℕ). b ∷ w) (append_assoc (line ++ 13 ∷ 10 ∷ []) (as_lines lines) (13 ∷ 10 ∷ rest)
    ∙ append_assoc line (13 ∷ 10 ∷ []) (as_lines lines ++ 13 ∷ 10 ∷ rest)) in
    ap (lines_at false) grouped ∙ by_first_line ((b ∷ line) ++ 13 ∷ 10 ∷ (as_lines lines ++ 13 ∷ 10 ∷ rest))
    ∙ ap by_line (line_again (b ∷ line) (as_lines lines ++ 13 ∷ 10 ∷ rest) are.0.0)
    ∙ ap (line_first (b ∷ line)) (lines_again lines rest are.1)

pub record AreLinesOf (bytes : List ℕ) (lines : List (List ℕ)) (rest : List ℕ) : Type 0 where
  pub whole : bytes ≡ as_lines lines ++ 13 ∷ 10 ∷ rest
  pub are_lines : AllByRecursion IsLine lines

more_lines : (bytes line after : List ℕ) (lines : List (List ℕ)) (rest : List ℕ) → IsLineOf bytes line after → line ≢ [] → AreLinesOf after lines rest
    → AreLinesOf bytes (line ∷ lines) rest
more_lines bytes line after lines rest is some are = record {
  whole =
      is.whole ∙ ap (λ (w : List ℕ). line ++ 13 ∷ 10 ∷ w) are.whole
      ∙ sym (append_assoc (line ++ 13 ∷ 10 ∷ []) (as_lines lines) (13 ∷ 10 ∷ rest) ∙ append_assoc line (13 ∷ 10 ∷ []) (as_lines lines ++ 13 ∷ 10 ∷ rest));
  are_lines = ((is.one, some), are.are_lines);
}

some_line : (b : ℕ) (line : List ℕ) → b ∷ line ≢ []
some_line b line e = cc

first_found : (bytes line after : List ℕ) (lines : List (List ℕ)) (rest : List ℕ) (o : Option (List (List ℕ) × List ℕ)) → IsLineOf bytes line after → line ≢ []
    → line_first line o ≡ Some (lines, rest)
    → ((ls : List (List ℕ)) (r : List ℕ) → o ≡ Some (ls, r) → AreLinesOf after ls r) → AreLinesOf bytes lines rest
first_found bytes line after lines rest None is some e are = absurd cc
first_found bytes line after lines rest (Some x) is some e are =
    let p = pair_is (line ∷ x.0, x.1) (lines, rest) e in
    rw (← p.0, ← p.1) (more_lines bytes line after x.0 x.1 is some (are x.0 x.1 refl))

by_first : (bytes : List ℕ) (lines : List (List ℕ)) (rest : List ℕ) (o : Option (List ℕ × List ℕ)) → line_at bytes ≡ o → by_line o ≡ Some (lines, rest)
    → ((after : List ℕ) (ls : List (List ℕ)) (r : List ℕ) → length after < length bytes → lines_at false after ≡ Some (ls, r) → AreLinesOf after ls r)
    → AreLinesOf bytes lines rest
by_first bytes lines rest None is e are = absurd cc
by_first bytes lines rest (Some ([], after)) is e are =
    let p = pair_is ([], after) (lines, rest) e in
    let one = line_of bytes [] after is in
    rw (← p.0, ← p.1) (record { whole = one.whole; are_lines = tt })
by_first bytes lines rest (Some (b ∷ line, after)) is e are =
    first_found bytes (b ∷ line) after lines rest (lines_at false after) (line_of bytes (b ∷ line) after is) (some_line b line) e
    (λ ls r h. are after ls r (shorter bytes (b ∷ line) after (sym is)) h)

lines_below : (n : ℕ) (bytes : List ℕ) (lines : List (List ℕ)) (rest : List ℕ) → length bytes < n → lines_at false bytes ≡ Some (lines, rest)
    → AreLinesOf bytes lines rest
lines_below zero bytes lines rest lt e = absurd (omega arith)
lines_below (suc n) bytes lines rest lt e =
    by_first bytes lines rest (line_at bytes) refl (sym (by_first_line bytes) ∙ e) (λ after ls r less h. lines_below n after ls r (omega arith) h)

pub lines_of : (bytes : List ℕ) (lines : List (List ℕ)) (rest : List ℕ) → lines_at false bytes ≡ Some (lines, rest) → AreLinesOf bytes lines rest
lines_of bytes lines rest e = lines_below (suc (length bytes)) bytes lines rest (omega arith) e

-- ---- both

pub cut_is : (bytes first head : List ℕ) (lines : List (List ℕ)) (rest : List ℕ) → line_at (after_blanks bytes) ≡ Some (first, head) → first ≢ []
    → lines_at false head ≡ Some (lines, rest) → IsCut bytes first lines rest
cut_is bytes first head lines rest e some f =
    let b : IsAfterBlanks bytes (after_blanks bytes) = blanks_of bytes in
    let l : IsLineOf (after_blanks bytes) first head = line_of (after_blanks bytes) first head e in
    let ls : AreLinesOf head lines rest = lines_of head lines rest f in
    record {
      blanks = b.blanks;
      whole = b.whole ∙ ap (λ (w : List ℕ). as_lines (replicate b.blanks []) ++ w) (l.whole ∙ ap (λ (w : List ℕ). first ++ 13 ∷ 10 ∷ w) ls.whole);
      is_line = (l.one, some);
      are_lines = ls.are_lines;
    }

pub cut_first : (bytes first : List ℕ) (lines : List (List ℕ)) (rest : List ℕ) → IsCut bytes first lines rest
    → line_at (after_blanks bytes) ≡ Some (first, as_lines lines ++ 13 ∷ 10 ∷ rest)
cut_first bytes first lines rest c =
    ap (λ (w : List ℕ). line_at (after_blanks w)) c.whole ∙ ap line_at (blanks_again c.blanks first (as_lines lines ++ 13 ∷ 10 ∷ rest) c.is_line)
    ∙ line_again first (as_lines lines ++ 13 ∷ 10 ∷ rest) c.is_line.0
