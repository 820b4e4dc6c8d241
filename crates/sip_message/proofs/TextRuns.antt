-- A text whose bytes may stand in a value: the line that it is, and the value that the line writes.
use Rattle.std.proofs.Common.{◌≡◌, ℕ, ◌+◌, ◌<◌, Bool, true, false, List, [], ◌∷◌, ◌++◌, length, take, drop, get_or, Some, refl, sym, ap, subst, ◌∙◌, arith}
use Rattle.std.specs.Prelude.{◌==◌, ◌&&◌}
use Rattle.std.specs.List.{list_all}
use Rattle.std.proofs.lemmas.List.{take-append-drop, drop_more}
use Rattle.sip_text_runs.specs.TextRun.{is_text}
use Rattle.sip_message.specs.Lines.{is_crlf, line_at}
use Rattle.sip_message.specs.Named.{IsNamed}

left_of : (a b : Bool) → (a && b) ≡ true → a ≡ true
left_of true b e = refl
left_of false b e = absurd cc

right_of : (a b : Bool) → (a && b) ≡ true → b ≡ true
right_of true b e = e
right_of false b e = absurd cc

not_cr : (b : ℕ) → is_text b ≡ true → (b == 13) ≡ false
not_cr b e = by_test (b == 13) refl
  where
    by_test : (t : Bool) → (b == 13) ≡ t → (b == 13) ≡ false
    by_test false is = is
    by_test true is =
        let same : b ≡ 13 = grind (arith, is) in
        let clash : is_text 13 ≡ true = subst (λ (c : ℕ). is_text c ≡ true) same e in
        absurd cc

no_end : (b c : ℕ) → is_text b ≡ true → is_crlf b c ≡ false
no_end b c e = rw (not_cr b e) refl

pub text_line : (line rest : List ℕ) → list_all is_text line ≡ true → line_at (line ++ 13 ∷ 10 ∷ rest) ≡ Some (line, rest)
text_line [] rest all = refl
text_line (b ∷ []) rest all = rw (no_end b 13 (left_of (is_text b) true all)) refl
text_line (b ∷ c ∷ line) rest all = rw (
  no_end b c (left_of (is_text b) (list_all is_text (c ∷ line)) all),
  text_line (c ∷ line) rest (right_of (is_text b) (list_all is_text (c ∷ line)) all),
) refl

-- a front that a CRLF follows
pub text_whole : (bytes line after : List ℕ) (end : ℕ) → line ≡ take end bytes → after ≡ drop (end + 2) bytes → end + 1 < length bytes → get_or bytes end 0 ≡ 13
    → get_or bytes (end + 1) 0 ≡ 10 → bytes ≡ line ++ 13 ∷ 10 ∷ after
text_whole bytes line after end first second fits cr lf =
    let two : end + 1 + 1 ≡ end + 2 = omega arith in
    let behind : drop end bytes ≡ 13 ∷ 10 ∷ after = drop_more bytes end 0 (omega arith)
    ∙ ap (λ (w : List ℕ). get_or bytes end 0 ∷ w) (drop_more bytes (end + 1) 0 fits ∙ ap (λ (k : ℕ). get_or bytes (end + 1) 0 ∷ drop k bytes) two)
    ∙ ap (λ (b : ℕ). b ∷ get_or bytes (end + 1) 0 ∷ drop (end + 2) bytes) cr ∙ ap (λ (b : ℕ). 13 ∷ b ∷ drop (end + 2) bytes) lf
    ∙ ap (λ (w : List ℕ). 13 ∷ 10 ∷ w) (sym second) in
    sym (take-append-drop end bytes) ∙ ap (λ (w : List ℕ). take end bytes ++ w) behind ∙ ap (λ (w : List ℕ). w ++ 13 ∷ 10 ∷ after) (sym first)

-- a text that a CRLF follows is a line
pub text_found : (bytes line after : List ℕ) → list_all is_text line ≡ true → bytes ≡ line ++ 13 ∷ 10 ∷ after → Some (line, after) ≡ line_at bytes
text_found bytes line after all whole = sym (ap line_at whole ∙ text_line line after all)

-- ---- the value that it writes

text_behind : (front back : List ℕ) → list_all is_text (front ++ back) ≡ true → list_all is_text back ≡ true
text_behind [] back e = e
text_behind (b ∷ front) back e = text_behind front back (right_of (is_text b) (list_all is_text (front ++ back)) e)

pub value_text : (line name value : List ℕ) → IsNamed line name value → list_all is_text line ≡ true → list_all is_text value ≡ true
value_text line name value is all = right_of (is_text 58) (list_all is_text value) (text_behind name (58 ∷ value)
    (subst (λ (w : List ℕ). list_all is_text w ≡ true) is.whole all))
