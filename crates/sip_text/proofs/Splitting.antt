-- Cutting bytes at the first of a byte.
use Rattle.std.proofs.Common.{◌≡◌, ℕ, zero, suc, ◌+◌, ◌<◌, ◌≤◌, true, false, List, [], ◌∷◌, ◌++◌, length, take, drop, get_or, Option, Some, None, refl, sym, ap, ◌∙◌}
use Rattle.std.proofs.Common.{append_assoc, arith}
use Rattle.std.specs.Prelude.{◌==◌}
use Rattle.std.proofs.lemmas.List.{append-nil, take_more, drop_more, drop_all}
use Rattle.memchr.specs.Find.{NoneBefore, Nowhere, Passes, is_byte}
use Rattle.sip_text.specs.Splits.{in_front, split_at_byte}

in_front-twice : (a b : List ℕ) (o : Option (List ℕ × List ℕ)) → in_front a (in_front b o) ≡ in_front (a ++ b) o
in_front-twice a b None = refl
in_front-twice a b (Some x) = ap (λ (w : List ℕ). Some (w, x.1)) (sym (append_assoc a b x.0))

in_front-nil : (o : Option (List ℕ × List ℕ)) → in_front [] o ≡ o
in_front-nil None = refl
in_front-nil (Some x) = refl

one_on : (mark b : ℕ) (bs : List ℕ) → (b == mark) ≡ false → split_at_byte mark (b ∷ bs) ≡ in_front (b ∷ []) (split_at_byte mark bs)
one_on mark b bs e = rw e refl

is_not : (mark b : ℕ) → ((b == mark) ≡ true → ⊥) → (b == mark) ≡ false
is_not mark b none = grind arith

run_on : (mark k : ℕ) (bytes : List ℕ) → k ≤ length bytes → ((i : ℕ) → i < k → (get_or bytes i 0 == mark) ≡ true → ⊥)
    → split_at_byte mark bytes ≡ in_front (take k bytes) (split_at_byte mark (drop k bytes))
run_on mark zero bytes le none = sym (in_front-nil (split_at_byte mark bytes))
run_on mark (suc k) [] le none = absurd (omega arith)
run_on mark (suc k) (b ∷ bytes) le none =
    let here : (b == mark) ≡ false = is_not mark b (none 0 (omega arith)) in
    let later : split_at_byte mark bytes ≡ in_front (take k bytes) (split_at_byte mark (drop k bytes)) =
    run_on mark k bytes (omega arith) (λ i lt. none (suc i) (omega arith)) in
    one_on mark b bytes here ∙ ap (in_front (b ∷ [])) later ∙ in_front-twice (b ∷ []) (take k bytes) (split_at_byte mark (drop k bytes))

pub split_found : (mark k : ℕ) (bytes rest : List ℕ) (first : ℕ) → NoneBefore (Passes (is_byte mark) bytes) 0 (length bytes) k × Passes (is_byte mark) bytes k
    → drop k bytes ≡ first ∷ rest → Some (take k bytes, rest) ≡ split_at_byte mark bytes
split_found mark k bytes rest first p e =
    let more : drop k bytes ≡ get_or bytes k 0 ∷ drop (k + 1) bytes = drop_more bytes k 0 p.0.high in
    let same : rest ≡ drop (k + 1) bytes = cc in
    let here : split_at_byte mark (drop k bytes) ≡ Some ([], drop (k + 1) bytes) = ap (split_at_byte mark) more ∙ rw p.1 refl in
    sym (run_on mark k bytes (omega (arith, p.0.high)) (λ i lt. p.0.before i (omega arith) lt) ∙ ap (in_front (take k bytes)) here
    ∙ ap (λ (w : List ℕ). Some (w, drop (k + 1) bytes)) (append-nil (take k bytes)) ∙ ap (λ (w : List ℕ). Some (take k bytes, w)) (sym same))

pub split_none : (mark : ℕ) (bytes : List ℕ) → Nowhere (Passes (is_byte mark) bytes) 0 (length bytes) → None ≡ split_at_byte mark bytes
split_none mark bytes none =
    sym (run_on mark (length bytes) bytes (omega arith) (λ i lt. none i (omega arith) lt)
    ∙ ap (λ (w : List ℕ). in_front (take (length bytes) bytes) (split_at_byte mark w)) (drop_all (length bytes) bytes (omega arith)))

-- ---- byte by byte

pub split_begins : (mark : ℕ) (bytes : List ℕ) → in_front [] (split_at_byte mark bytes) ≡ split_at_byte mark bytes
split_begins mark bytes = in_front-nil (split_at_byte mark bytes)

pub split_ends : (mark : ℕ) (bytes : List ℕ) (i : ℕ) (total : Option (List ℕ × List ℕ)) → i < length bytes → (get_or bytes i 0 == mark) ≡ true
    → in_front (take i bytes) (split_at_byte mark (drop i bytes)) ≡ total → Some (take i bytes, drop (i + 1) bytes) ≡ total
split_ends mark bytes i total lt is so_far =
    let here : split_at_byte mark (drop i bytes) ≡ Some ([], drop (i + 1) bytes) = ap (split_at_byte mark) (drop_more bytes i 0 lt) ∙ rw is refl in
    ap (λ (w : List ℕ). Some (w, drop (i + 1) bytes)) (sym (append-nil (take i bytes))) ∙ sym (ap (in_front (take i bytes)) here) ∙ so_far

pub split_goes_on : (mark : ℕ) (bytes : List ℕ) (i : ℕ) (total : Option (List ℕ × List ℕ)) → i < length bytes → (get_or bytes i 0 == mark) ≡ false
    → in_front (take i bytes) (split_at_byte mark (drop i bytes)) ≡ total → in_front (take (i + 1) bytes) (split_at_byte mark (drop (i + 1) bytes)) ≡ total
split_goes_on mark bytes i total lt is so_far =
    let rest : Option (List ℕ × List ℕ) = split_at_byte mark (drop (i + 1) bytes) in
    let here : split_at_byte mark (drop i bytes) ≡ in_front (get_or bytes i 0 ∷ []) rest = ap (split_at_byte mark) (drop_more bytes i 0 lt)
    ∙ one_on mark (get_or bytes i 0) (drop (i + 1) bytes) is in
    ap (λ (w : List ℕ). in_front w rest) (take_more bytes i 0 lt)
    ∙ sym (in_front-twice (take i bytes) (get_or bytes i 0 ∷ []) rest)
    ∙ sym (ap (in_front (take i bytes)) here) ∙ so_far

pub split_nowhere : (mark : ℕ) (bytes : List ℕ) (i : ℕ) (total : Option (List ℕ × List ℕ)) → length bytes ≤ i
    → in_front (take i bytes) (split_at_byte mark (drop i bytes)) ≡ total → None ≡ total
split_nowhere mark bytes i total le so_far =
    sym (ap (λ (w : List ℕ). in_front (take i bytes) (split_at_byte mark w)) (drop_all i bytes le)) ∙ so_far
