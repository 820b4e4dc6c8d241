-- The first CRLF, looked for by its LF.
use Rattle.std.proofs.Common.{◌≡◌, ◌⊎◌, ◌≢◌, ℕ, zero, suc, ◌+◌, ◌-◌, ◌<◌, ◌≤◌, List, [], ◌∷◌, length, take, drop, get_or, sym, ap, subst, ◌∙◌, arith, inl, inr}
use Rattle.std.proofs.lemmas.Bool.{eq-eqb, eqb-true, cases_eq, cases_lt}
use Rattle.std.proofs.lemmas.List.{length-drop, get_or-drop, take_all}
use Rattle.memchr.specs.Find.{NoneBefore, Nowhere, OccursAt, Passes, is_byte}

-- what stands from a place on, as a slice
pub rest_is : (from : ℕ) (bytes : List ℕ) → take (length bytes - from) (drop from bytes) ≡ drop from bytes
rest_is from bytes = take_all (length bytes - from) (drop from bytes) (omega (arith, length-drop from bytes))

abbrev crlf : List ℕ
crlf = 13 ∷ 10 ∷ []

pub stands : (bytes : List ℕ) (at end : ℕ) → at + 1 ≡ end → end < length bytes → get_or bytes at 0 ≡ 13 → get_or bytes end 0 ≡ 10 → OccursAt bytes crlf at
stands bytes at end next fits cr lf = record { fits = omega (arith, next, fits); reads = λ j below. at_place j below }
  where
    at_place : (j : ℕ) → j < 2 → get_or bytes (at + j) 0 ≡ get_or crlf j 0
    at_place zero below =
        let same : at + zero ≡ at = omega arith in
        ap (λ (k : ℕ). get_or bytes k 0) same ∙ cr
    at_place (suc zero) below =
        let same : at + suc zero ≡ end = omega (arith, next) in
        ap (λ (k : ℕ). get_or bytes k 0) same ∙ lf
    at_place (suc (suc j)) below = absurd (omega arith)

pub no_cr : (bytes : List ℕ) (end : ℕ) → get_or bytes (end - 1) 0 ≢ 13 → (k : ℕ) → k + 1 ≡ end → OccursAt bytes crlf k → ⊥
no_cr bytes end differs k next occurs =
    let first : end - 1 ≡ k + 0 = omega (arith, next) in
    differs (ap (λ (j : ℕ). get_or bytes j 0) first ∙ occurs.reads 0 (omega arith))

-- no CRLF ends below a place
pub record NoneEnds (bytes : List ℕ) (from : ℕ) : Type 0 where
  pub within : from ≤ length bytes
  pub none : (k : ℕ) → k + 1 < from → OccursAt bytes crlf k → ⊥

pub none_yet : (bytes : List ℕ) → NoneEnds bytes 0
none_yet bytes = record { within = omega arith; none = λ k lt. absurd (omega arith) }

-- no LF stands from a place on, below another
no_lf : (bytes : List ℕ) (from next : ℕ) → Nowhere (Passes (is_byte 10) (drop from bytes)) 0 next → NoneEnds bytes from → (k : ℕ) → k + 1 < from + next
    → OccursAt bytes crlf k → ⊥
no_lf bytes from next nowhere before k lt occurs = elim (cases_lt (k + 1) from) [
  | inl below ↦ before.none k below occurs
  | inr above ↦ nowhere (k + 1 - from)
      (omega arith) (omega (arith, above, lt)) (passes above)
]
  where
    passes : from ≤ k + 1 → Passes (is_byte 10) (drop from bytes) (k + 1 - from)
    passes above =
        let here : from + (k + 1 - from) ≡ k + 1 = omega (arith, above) in
        eq-eqb _ 10 (get_or-drop from bytes (k + 1 - from) 0 ∙ ap (λ (j : ℕ). get_or bytes j 0) here ∙ occurs.reads 1 (omega arith))

-- the first LF of what stands from a place on
abbrev pub IsNext : List ℕ → ℕ → Type 0
IsNext rest next = NoneBefore (Passes (is_byte 10) rest) 0 (length rest) next × Passes (is_byte 10) rest next

pub lf_at : (bytes rest : List ℕ) (from next end : ℕ) → NoneEnds bytes from → rest ≡ drop from bytes → IsNext rest next → end ≡ from + next
    → (end < length bytes) × (get_or bytes end 0 ≡ 10)
lf_at bytes rest from next end before r p is = (
  omega (arith, p.0.high, ap length r, length-drop from bytes, before.within, is),
  ap (λ (j : ℕ). get_or bytes j 0) is ∙ sym (get_or-drop from bytes next 0) ∙ ap (λ (w : List ℕ). get_or w next 0) (sym r) ∙ eqb-true _ 10 p.1,
)

nowhere_on : (bytes rest : List ℕ) (from next : ℕ) → rest ≡ drop from bytes → IsNext rest next → Nowhere (Passes (is_byte 10) (drop from bytes)) 0 next
nowhere_on bytes rest from next r p = subst (λ (w : List ℕ). Nowhere (Passes (is_byte 10) w) 0 next) r p.0.before

pub found : (bytes rest : List ℕ) (from next end at : ℕ) → NoneEnds bytes from → rest ≡ drop from bytes → IsNext rest next → end ≡ from + next
    → (at + 1 ≡ end) × OccursAt bytes crlf at
    → NoneBefore (OccursAt bytes crlf) 0 (length bytes + 1) at × OccursAt bytes crlf at
found bytes rest from next end at before r p is here = (
  record {
    low = omega arith;
    high = omega (arith, here.0, (lf_at bytes rest from next end before r p is).0);
    before = λ k low lt. no_lf bytes from next (nowhere_on bytes rest from next r p) before k (omega (arith, here.0, is, lt));
  },
  here.1,
)

pub goes_on : (bytes rest : List ℕ) (from next end more : ℕ) → NoneEnds bytes from → rest ≡ drop from bytes → IsNext rest next → end ≡ from + next → more ≡ end + 1
    → ((k : ℕ) → k + 1 ≡ end → OccursAt bytes crlf k → ⊥) → NoneEnds bytes more
goes_on bytes rest from next end more before r p is m none_here = record {
  within = omega (arith, m, (lf_at bytes rest from next end before r p is).0);
  none = λ k lt occurs. elim (last k lt) [
    | inl below ↦ no_lf bytes from next (nowhere_on bytes rest from next r p) before k below occurs
    | inr here ↦ none_here k here
        occurs
  ];
}
  where
    last : (k : ℕ) → k + 1 < more → (k + 1 < from + next) ⊎ (k + 1 ≡ end)
    last k lt = elim (cases_eq (k + 1) end) [ inl same ↦ inr same | inr other ↦ inl (omega (arith, lt, m, is, other)) ]

pub none_left : (bytes rest : List ℕ) (from : ℕ) → NoneEnds bytes from → rest ≡ drop from bytes → Nowhere (Passes (is_byte 10) rest) 0 (length rest)
    → Nowhere (OccursAt bytes crlf) 0 (length bytes + 1)
none_left bytes rest from before r nowhere k low lt occurs =
    no_lf bytes from (length (drop from bytes)) (subst (λ (w : List ℕ). Nowhere (Passes (is_byte 10) w) 0 (length w)) r nowhere) before k
    (omega (arith, length-drop from bytes, before.within, occurs.fits)) occurs
