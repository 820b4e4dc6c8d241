-- Cutting bytes at a mark.
use Rattle.std.proofs.Common.{◌≡◌, ℕ, zero, suc, ◌+◌, ◌<◌, ◌≤◌, Bool, true, false, List, [], ◌∷◌, ◌++◌, length, take, drop, get_or, Option, Some, None, refl, sym, ap}
use Rattle.std.proofs.Common.{◌∙◌, append_assoc, arith}
use Rattle.std.specs.Prelude.{◌==◌, ◌&&◌}
use Rattle.std.proofs.lemmas.Bool.{eqb-true}
use Rattle.std.proofs.lemmas.List.{append-nil, drop_more, length-drop}
use Rattle.memchr.specs.Find.{NoneBefore, Nowhere, OccursAt}
use Rattle.sip_message.specs.Lines.{is_crlf, line_at}
use Rattle.sip_text.specs.Splits.{in_front}

pub in_front-twice : (a b : List ℕ) (o : Option (List ℕ × List ℕ)) → in_front a (in_front b o) ≡ in_front (a ++ b) o
in_front-twice a b None = refl
in_front-twice a b (Some x) = ap (λ (w : List ℕ). Some (w, x.1)) (sym (append_assoc a b x.0))

pub in_front-nil : (o : Option (List ℕ × List ℕ)) → in_front [] o ≡ o
in_front-nil None = refl
in_front-nil (Some x) = refl

-- two bytes and what follows them
two_more : (bytes : List ℕ) (i : ℕ) → i + 1 < length bytes → drop i bytes ≡ get_or bytes i 0 ∷ (get_or bytes (i + 1) 0 ∷ drop (i + 2) bytes)
two_more bytes i lt =
    let two : i + 1 + 1 ≡ i + 2 = omega arith in
    drop_more bytes i 0 (omega arith) ∙ ap (λ (w : List ℕ). get_or bytes i 0 ∷ w) (drop_more bytes (i + 1) 0 lt
    ∙ ap (λ (k : ℕ). get_or bytes (i + 1) 0 ∷ drop k bytes) two)

pub crlf_is : (b c : ℕ) → is_crlf b c ≡ true → (b ≡ 13) × (c ≡ 10)
crlf_is b c e = both (b == 13) (c == 10) refl refl e
  where
    both : (s t : Bool) → (b == 13) ≡ s → (c == 10) ≡ t → (s && t) ≡ true → (b ≡ 13) × (c ≡ 10)
    both true true x y e' = (eqb-true b 13 x, eqb-true c 10 y)
    both true false x y e' = absurd cc
    both false t x y e' = absurd cc

abbrev crlf : List ℕ
crlf = 13 ∷ 10 ∷ []

-- a CRLF stands where its two bytes do
crlf_at : (bytes : List ℕ) (i : ℕ) → i + 1 < length bytes → is_crlf (get_or bytes i 0) (get_or bytes (i + 1) 0) ≡ true → OccursAt bytes crlf i
crlf_at bytes i lt is =
    let p = crlf_is (get_or bytes i 0) (get_or bytes (i + 1) 0) is in
    record { fits = omega (arith, lt); reads = λ j below. at_place p.0 p.1 j below }
  where
    at_place : get_or bytes i 0 ≡ 13 → get_or bytes (i + 1) 0 ≡ 10 → (j : ℕ) → j < 2 → get_or bytes (i + j) 0 ≡ get_or crlf j 0
    at_place e f zero below =
        let same : i + zero ≡ i = omega arith in
        ap (λ (k : ℕ). get_or bytes k 0) same ∙ e
    at_place e f (suc zero) below =
        let same : i + suc zero ≡ i + 1 = omega arith in
        ap (λ (k : ℕ). get_or bytes k 0) same ∙ f
    at_place e f (suc (suc j)) below = absurd (omega arith)

goes_on : (bytes : List ℕ) (i j : ℕ) → j ≡ i + 1 → i + 1 < length bytes → (OccursAt bytes crlf i → ⊥) → is_crlf (get_or bytes i 0) (get_or bytes j 0) ≡ false
goes_on bytes i j next lt none = ap (λ (n : ℕ). is_crlf (get_or bytes i 0) (get_or bytes n 0)) next ∙ by_test (is_crlf (get_or bytes i 0) (get_or bytes (i + 1) 0)) refl
  where
    by_test : (t : Bool) → is_crlf (get_or bytes i 0) (get_or bytes (i + 1) 0) ≡ t → is_crlf (get_or bytes i 0) (get_or bytes (i + 1) 0) ≡ false
    by_test true e = absurd (none (crlf_at bytes i lt e))
    by_test false e = e

-- the line goes on up to a place below which no CRLF stands
line_on : (k : ℕ) (bytes : List ℕ) → k + 1 ≤ length bytes → ((i j : ℕ) → j ≡ i + 1 → i < k → is_crlf (get_or bytes i 0) (get_or bytes j 0) ≡ false)
    → line_at bytes ≡ in_front (take k bytes) (line_at (drop k bytes))
line_on zero bytes le none = sym (in_front-nil (line_at bytes))
line_on (suc k) [] le none = absurd (omega arith)
line_on (suc k) (b ∷ []) le none = absurd (omega arith)
line_on (suc k) (b ∷ c ∷ bytes) le none =
    let here : line_at (b ∷ c ∷ bytes) ≡ in_front (b ∷ []) (line_at (c ∷ bytes)) = rw (none 0 1 (omega arith) (omega arith)) refl in
    here ∙ ap (in_front (b ∷ [])) (line_on k (c ∷ bytes) (omega arith) (λ i j next lt. none (suc i) (suc j) (omega (arith, next)) (omega arith)))
    ∙ in_front-twice (b ∷ []) (take k (c ∷ bytes)) (line_at (drop k (c ∷ bytes)))

pub line_found : (bytes rest : List ℕ) (k : ℕ) → NoneBefore (OccursAt bytes crlf) 0 (length bytes + 1) k × OccursAt bytes crlf k → rest ≡ drop 2 (drop k bytes)
    → Some (take k bytes, rest) ≡ line_at bytes
line_found bytes rest k p back =
    let fits : k + 1 < length bytes = omega (arith, p.1.fits) in
    let first : k + 0 ≡ k = omega arith in
    let cr : get_or bytes k 0 ≡ 13 = ap (λ (j : ℕ). get_or bytes j 0) (sym first) ∙ p.1.reads 0 (omega arith) in
    let lf : get_or bytes (k + 1) 0 ≡ 10 = p.1.reads 1 (omega arith) in
    let two : drop k bytes ≡ get_or bytes k 0 ∷ (get_or bytes (k + 1) 0 ∷ drop (k + 2) bytes) = two_more bytes k fits in
    let here : line_at (drop k bytes) ≡ Some ([], drop (k + 2) bytes) = ap line_at two ∙ rw (cr, lf) refl in
    let behind : rest ≡ drop (k + 2) bytes = back ∙ ap (drop 2) two in
    sym (
    line_on k bytes (omega (arith, fits)) (λ i j next lt. goes_on bytes i j next (omega (arith, fits)) (p.0.before i (omega arith) lt))
    ∙ ap (in_front (take k bytes)) here ∙ ap (λ (w : List ℕ). Some (w, drop (k + 2) bytes)) (append-nil (take k bytes))
    ∙ ap (λ (w : List ℕ). Some (take k bytes, w)) (sym behind)
    )

one_byte : (bytes : List ℕ) → length bytes < 2 → line_at bytes ≡ None
one_byte [] lt = refl
one_byte (b ∷ []) lt = refl
one_byte (b ∷ c ∷ bytes) lt = absurd (omega arith)

pub no_line : (bytes : List ℕ) → Nowhere (OccursAt bytes crlf) 0 (length bytes + 1) → None ≡ line_at bytes
no_line [] none = refl
no_line (b ∷ bytes) none =
    let k : ℕ = length bytes in
    let last : line_at (drop k (b ∷ bytes)) ≡ None = one_byte (drop k (b ∷ bytes)) (omega (arith, length-drop k (b ∷ bytes))) in
    sym (line_on k (b ∷ bytes) (omega arith) (λ i j next lt. goes_on (b ∷ bytes) i j next (omega arith) (none i (omega arith) (omega arith)))
    ∙ ap (in_front (take k (b ∷ bytes))) last)
