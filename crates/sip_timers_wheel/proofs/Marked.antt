-- Marks that tell which slots have a timer.
use Rattle.std.proofs.Common.{◌≡◌, ◌≢◌, ℕ, ◌+◌, ◌*◌, ◌/◌, ◌%◌, ◌≤◌, ◌<◌, List, [], ◌∷◌, ◌++◌, length, refl, ap, sym, ◌∙◌, arith, subst, get_or, set, replicate, ltb, true}
use Rattle.std.proofs.Common.{false}
use Rattle.std.specs.Int.{bit_at}
use Rattle.std.proofs.lemmas.Bool.Decides.{nat_tests}
use Rattle.std.proofs.lemmas.List.{length-set, length-replicate, get_or-replicate, get_or_past}
use Rattle.std.proofs.lemmas.Nat.Bits.{bit_at-zero}
use Rattle.sip_timers.specs.declared.timer.Timer.{Timer}
use Rattle.sip_timers_wheel.specs.Lists.{list_at}
use Rattle.sip_timers_wheel.specs.Marks.{IsNextMark, mark_of, mark_for, AreMarked, IsMarkedAt}
use Rattle.sip_timers_wheel.specs.Wheel.{IsFirstFrom}
use Rattle.sip_timers_wheel.proofs.Lists.{list_at-other}
use Rattle.sip_timers_wheel.proofs.Changes.{by_same}

nil-by-mark : (ts : List Timer) → mark_for ts ≡ 0 → ts ≡ []
nil-by-mark [] h = refl
nil-by-mark (t ∷ ts) h = absurd (grind (arith, nat_tests, h))

some-by-mark : (ts : List Timer) → mark_for ts ≡ 1 → 1 ≤ length ts
some-by-mark [] h = absurd (grind (arith, nat_tests, h))
some-by-mark (t ∷ ts) h = omega arith

module _ (words : List ℕ) (lists : List (List Timer)) (level from offset : ℕ) (marked : AreMarked words lists) (in-levels : level < 5)
    (next : IsNextMark (get_or words level 0) from offset) where
  mark-at : (p : ℕ) → p < 64 → bit_at (get_or words level 0) p ≡ mark_for (list_at lists (level * 64 + p))
  mark-at p h =
      let word : get_or words ((level * 64 + p) / 64) 0 ≡ get_or words level 0 = ap (λ l. get_or words l 0) (omega (arith, h)) in
      let place : (level * 64 + p) % 64 ≡ p = omega (arith, h) in
      sym (ap (λ w. bit_at w ((level * 64 + p) % 64)) word ∙ ap (λ q. bit_at (get_or words level 0) q) place) ∙ marked (level * 64 + p) (omega (arith, h, in-levels))

  pub first-from : IsFirstFrom lists level from offset
  first-from = record {
    within = next.within;
    holds = some-by-mark (list_at lists (level * 64 + (from + offset) % 64)) (sym (mark-at ((from + offset) % 64) (omega arith)) ∙ next.marked);
    before = (λ i lt. nil-by-mark (list_at lists (level * 64 + (from + i) % 64)) (sym (mark-at ((from + i) % 64) (omega arith)) ∙ next.before i lt));
  }

-- by the first one of a list that has one
pub by_first : (P : Type 0) (ts : List Timer) → 1 ≤ length ts → ((t : Timer) (rest : List Timer) → ts ≡ t ∷ rest → P) → P
by_first P [] h some = absurd (omega (arith, h))
by_first P (t ∷ rest) h some = some t rest refl

module _ (old new : List (List Timer)) (from to : ℕ) (some : 1 ≤ length (list_at old from)) (moves : (t : Timer) (rest : List Timer) → list_at old from ≡ t ∷ rest
    → new ≡ set (set old from rest) to (list_at old to ++ t ∷ [])) where
  pub moved-length : length new ≡ length old
  moved-length = by_first (length new ≡ length old) (list_at old from) some (λ t rest e.
      ap (λ l. length l) (moves t rest e) ∙ (length-set (set old from rest) to (list_at old to ++ t ∷ []) ∙ length-set old from rest))

  moved-other : (i : ℕ) → i ≢ from → i ≢ to → list_at new i ≡ list_at old i
  moved-other i n m = by_first (list_at new i ≡ list_at old i) (list_at old from) some (λ t rest e.
      ap (λ l. list_at l i) (moves t rest e) ∙ (list_at-other (set old from rest) to i (list_at old to ++ t ∷ []) m ∙ list_at-other old from i rest n))

  pub moved-marks : (w0 w1 w2 : List ℕ) → AreMarked w0 old → IsMarkedAt w0 w1 new from → IsMarkedAt w1 w2 new to → AreMarked w2 new
  moved-marks w0 w1 w2 marked first second i low = by_same (mark_of w2 i ≡ mark_for (list_at new i)) i to
      (λ e. subst (λ j. mark_of w2 j ≡ mark_for (list_at new j)) (sym e) (second.here (subst (λ j. j < 320) e low)))
      (λ n. second.others i n ∙ by_same (mark_of w1 i ≡ mark_for (list_at new i)) i from
      (λ e. subst (λ j. mark_of w1 j ≡ mark_for (list_at new j)) (sym e) (first.here (subst (λ j. j < 320) e low)))
      (λ m. first.others i m ∙ (marked i low ∙ ap (λ l. mark_for l) (sym (moved-other i m n)))))

-- ---- no timer

pub by_below : (P : Type 0) (x y : ℕ) → (x < y → P) → (y ≤ x → P) → P
by_below P x y lt le =
    elim (ltb x y) as (λ v. (ltb x y ≡ v) → P) [
      | true ↦ (λ e. lt (grind (arith, nat_tests, e)))
      | false ↦ (λ e. le (grind (arith, nat_tests, e)))
    ] refl

abbrev pub no-words : List ℕ
no-words = 0 ∷ 0 ∷ 0 ∷ 0 ∷ 0 ∷ []

zeros : no-words ≡ replicate 5 0
zeros = refl

no-word : (i : ℕ) → get_or no-words i 0 ≡ 0
no-word i = ap (λ l. get_or l i 0) zeros ∙ by_below (get_or (replicate 5 0) i 0 ≡ 0) i 5
    (λ lt. get_or-replicate 5 i 0 0 lt)
    (λ le. get_or_past (replicate 5 0) i 0 (omega (arith, le, length-replicate {A = ℕ} 5 0)))

pub no-marks : (lists : List (List Timer)) → lists ≡ replicate 321 [] → (length lists ≡ 321) × AreMarked no-words lists
no-marks lists e = (
  ap (λ l. length l) e ∙ length-replicate {A = List Timer} 321 [],
  (λ slot low. (ap (λ w. bit_at w (slot % 64)) (no-word (slot / 64)) ∙ bit_at-zero (slot % 64))
      ∙ sym (ap (λ l. mark_for l) (ap (λ l. list_at l slot) e ∙ get_or-replicate 321 slot [] [] (omega (arith, low))))),
)
