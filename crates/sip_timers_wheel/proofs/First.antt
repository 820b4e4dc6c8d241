-- The slot and the timer that are due first.
use Rattle.std.proofs.Common.{◌≡◌, ◌≢◌, ℕ, ◌+◌, ◌*◌, ◌/◌, ◌%◌, ◌-◌, ◌≤◌, ◌<◌, List, [], ◌∷◌, length, ltb, cond, true, false, refl, ap, sym, ◌∙◌, arith, subst, Option}
use Rattle.std.proofs.Common.{Some, None, drop}
use Rattle.std.proofs.lemmas.Bool.Decides.{nat_tests}
use Rattle.std.proofs.lemmas.List.{get_or_past}
use Rattle.sip_timers.specs.declared.timer.Timer.{Timer}
use Rattle.sip_timers_wheel.specs.Lists.{list_at, concat, least, earlier}
use Rattle.sip_timers_wheel.specs.Places.{slot_of, start_of, level_of, width, slot_at}
use Rattle.sip_timers_wheel.specs.Order.{due_at}
use Rattle.sip_timers_wheel.specs.Wheel.{IsWheel, pending_in, IsFirstSlot, IsEmptyLevel, IsFirstFrom}
use Rattle.sip_timers_wheel.proofs.Order.{StaysOrdered, AreOrdered-in_order, head_by_dues, due_at-same, due_at-other}
use Rattle.sip_timers_wheel.proofs.Moments.{slot-late, slot-none, slot-in, slot_below, slot_in-range, start_after, start_le, before_end, same_start, same_slot, ahead}
use Rattle.sip_timers_wheel.proofs.Moments.{behind_level, behind_slot, level_below}
use Rattle.sip_timers_wheel.proofs.Changes.{by_same, seen}
use Rattle.sip_timers_wheel.proofs.Moves.{by_moment, near_by_slot, by_length}

lower-by : (x y : ℕ) → ltb x y ≡ true → x < y
lower-by x y e = grind (arith, nat_tests, e)

higher-by : (x y z : ℕ) → ltb x y ≡ false → x ≢ y → z ≡ y → z < x
higher-by x y z e n s = grind (arith, nat_tests, e, n, s)

-- ---- the timer of a list that is due first

abbrev pub value-or : Timer → Option Timer → Timer
value-or t None = t
value-or t (Some u) = u

pub some-is : (x y : Timer) → Some x ≡ Some y → x ≡ y
some-is x y e = ap (λ o. value-or x o) e

pub by_option : (P : Type 0) (o : Option Timer) → (o ≡ None → P) → ((u : Timer) → o ≡ Some u → P) → P
by_option P None none some = none refl
by_option P (Some u) none some = some u refl

pub none-least : (ts : List Timer) → least ts ≡ None → ts ≡ []
none-least [] h = refl
none-least (t ∷ ts) h = absurd (grind (arith, h))

begins : (xs : List Timer) (l : Timer) (ys : List Timer) → xs ≡ l ∷ ys → xs ≡ l ∷ drop 1 xs
begins xs l ys e = e ∙ ap (λ z. l ∷ drop 1 z) (sym e)

-- the least of a list with one more in front: that one, or else the least of the rest
by_least : (P : Type 0) (t : Timer) (ts : List Timer) (l : Timer) → least (t ∷ ts) ≡ Some l → (l ≡ t → ((u : Timer) → least ts ≡ Some u → t.due ≤ u.due) → P)
    → (least ts ≡ Some l → l.due < t.due → P) → P
by_least P t ts l h itself rest = by_option P (least ts)
    (λ none. itself (sym (some-is t l (sym (ap (λ o. Some (earlier t o)) none) ∙ h))) (λ u e. absurd (grind (arith, sym none ∙ e))))
    (λ u some. elim (ltb u.due t.due) as (λ v. (ltb u.due t.due ≡ v) → P) [
      | true ↦ (λ k.
          let is : l ≡ u = sym (some-is u l (sym (ap (λ b. Some (cond b u t)) k) ∙ (sym (ap (λ o. Some (earlier t o)) some) ∙ h))) in
          rest (some ∙ ap (λ x. Some x) (sym is)) (subst (λ x. x.due < t.due) (sym is) (grind (arith, nat_tests, k))))
      | false ↦ (λ k.
          let is : l ≡ t = sym (some-is t l (sym (ap (λ b. Some (cond b u t)) k) ∙ (sym (ap (λ o. Some (earlier t o)) some) ∙ h))) in
          itself is (λ w e. subst (λ x. t.due ≤ x.due) (some-is u w (sym some ∙ e)) (grind (arith, nat_tests, k))))
    ] refl)

-- none is due before the least
pub least-before : (ts : List Timer) (l : Timer) → least ts ≡ Some l → (d : ℕ) → d < l.due → due_at d ts ≡ []
least-before [] l h d lt = refl
least-before (t ∷ ts) l h d lt = by_least (due_at d (t ∷ ts) ≡ []) t ts l h
    (λ is none. due_at-other d t ts (λ e. omega (arith, e, lt, ap (λ x. x.due) is)) ∙ by_option (due_at d ts ≡ []) (least ts)
    (λ nil. ap (λ l. due_at d l) (none-least ts nil))
    (λ u some. least-before ts u some d (omega (arith, lt, ap (λ x. x.due) is, none u some))))
    (λ some below. due_at-other d t ts (λ e. omega (arith, e, lt, below)) ∙ least-before ts l some d lt)

-- the least is the first of its moment
pub least-first : (ts : List Timer) (l : Timer) → least ts ≡ Some l → due_at l.due ts ≡ l ∷ drop 1 (due_at l.due ts)
least-first [] l h = absurd (grind (arith, h))
least-first (t ∷ ts) l h = by_least (due_at l.due (t ∷ ts) ≡ l ∷ drop 1 (due_at l.due (t ∷ ts))) t ts l h
    (λ is none. subst (λ x. due_at x.due (t ∷ ts) ≡ x ∷ drop 1 (due_at x.due (t ∷ ts))) (sym is) (begins (due_at t.due (t ∷ ts)) t (due_at t.due ts) (due_at-same t ts)))
    (λ some below.
    let same : due_at l.due (t ∷ ts) ≡ due_at l.due ts = due_at-other l.due t ts (λ e. omega (arith, e, below)) in
    begins (due_at l.due (t ∷ ts)) l (drop 1 (due_at l.due ts)) (same ∙ least-first ts l some))

-- ---- the timer of all that is due first

nil_by_dues : (ts : List Timer) → ((d : ℕ) → due_at d ts ≡ []) → ts ≡ []
nil_by_dues [] h = refl
nil_by_dues (t ∷ ts) h = absurd (grind (arith, ap (λ l. length l) (sym (due_at-same t ts) ∙ h t.due)))

module _ (stays : StaysOrdered) (b : ℕ) (lists : List (List Timer)) (wheel : IsWheel b lists) where
  module _ (slot : ℕ) (l : Timer) (least-is : least (list_at lists slot) ≡ Some l) where
    least-stands : slot_of b l.due ≡ slot
    least-stands = by_same (slot_of b l.due ≡ slot) slot (slot_of b l.due)
        (λ e. sym e)
        (λ n. absurd (grind (arith, ap (λ x. length x) (sym (least-first (list_at lists slot) l least-is) ∙ wheel.in_place l.due slot n))))

    head-of : ((d : ℕ) → slot_of b d ≢ slot → d < l.due → due_at d (list_at lists (slot_of b d)) ≡ []) → pending_in lists ≡ l ∷ drop 1 (pending_in lists)
    head-of others = head_by_dues (pending_in lists) l (drop 1 (due_at l.due (list_at lists slot))) (AreOrdered-in_order stays (concat lists))
        (λ d lt. seen stays b lists wheel.in_place d ∙ by_same (due_at d (list_at lists (slot_of b d)) ≡ []) (slot_of b d) slot
        (λ e. ap (λ j. due_at d (list_at lists j)) e ∙ least-before (list_at lists slot) l least-is d lt)
        (λ n. others d n lt))
        (seen stays b lists wheel.in_place l.due ∙ (ap (λ j. due_at l.due (list_at lists j)) least-stands ∙ least-first (list_at lists slot) l least-is))

  far-none : (d : ℕ) → b + 1073741824 ≤ d → due_at d (list_at lists (slot_of b d)) ≡ []
  far-none d far = ap (λ l. due_at d l) (ap (λ i. list_at lists i) (slot-none b d far) ∙ get_or_past lists 321 [] (omega (arith, wheel.slots)))

  -- the first one of what is late
  pub head-late : (l : Timer) → least (list_at lists 320) ≡ Some l → pending_in lists ≡ l ∷ drop 1 (pending_in lists)
  head-late l is = head-of 320 l is (λ d n lt.
      let late : l.due ≤ b = by_moment (l.due ≤ b) b l.due (λ le. le) (λ a c. absurd (omega (arith, slot_below b l.due a c, least-stands 320 l is)))
      (λ far. absurd (omega (arith, slot-none b l.due far, least-stands 320 l is))) in
      absurd (n (slot-late b d (omega (arith, late, lt)))))

  -- or else of the first slot
  pub head-first : (slot start end : ℕ) (l : Timer) → list_at lists 320 ≡ [] → IsFirstSlot b lists slot start end → least (list_at lists slot) ≡ Some l
      → pending_in lists ≡ l ∷ drop 1 (pending_in lists)
  head-first slot start end l none-late first is = head-of slot l is (λ d n lt. by_moment (due_at d (list_at lists (slot_of b d)) ≡ []) b d
      (λ late. ap (λ x. due_at d x) (ap (λ i. list_at lists i) (slot-late b d late) ∙ none-late))
      (λ a c. by_length (due_at d (list_at lists (slot_of b d)) ≡ []) (list_at lists (slot_of b d))
      (λ nil. ap (λ x. due_at d x) nil)
      (λ some. absurd (omega (arith, first.others d n (slot_below b d a c) some, start_le b d, first.own l.due (least-stands slot l is), lt))))
      (λ far. far-none d far))

  -- or else none stands
  pub none-pending : list_at lists 320 ≡ [] → ((level : ℕ) → level < 5 → IsEmptyLevel lists level) → pending_in lists ≡ []
  none-pending none-late none = nil_by_dues (pending_in lists) (λ d. seen stays b lists wheel.in_place d ∙ by_moment (due_at d (list_at lists (slot_of b d)) ≡ []) b d
      (λ late. ap (λ x. due_at d x) (ap (λ i. list_at lists i) (slot-late b d late) ∙ none-late))
      (λ a c. ap (λ x. due_at d x) (ap (λ i. list_at lists i) (slot-in b d a c) ∙ none (level_of b d) (level_below b d) (d / width (level_of b d) % 64) (omega arith)))
      (λ far. far-none d far))

-- ---- the first slot

round-offset : (q x offset : ℕ) → q < x → x ≤ q + 64 → offset < 64 → x % 64 ≡ ((q + 1) % 64 + offset) % 64 → x ≡ q + 1 + offset
round-offset q x offset a c d e = omega (arith, a, c, d, e)

round-back : (q x : ℕ) → q < x → x ≤ q + 64 → ((q + 1) % 64 + (x - q - 1)) % 64 ≡ x % 64
round-back q x a c = omega (arith, a, c)

module _ (b : ℕ) (lists : List (List Timer)) (level from offset due : ℕ) (wheel : IsWheel b lists) (from-is : from ≡ (b / width level + 1) % 64) (in-levels : level < 5)
    (below : (lower : ℕ) → lower < level → IsEmptyLevel lists lower) (first : IsFirstFrom lists level from offset)
    (some : 1 ≤ length (due_at due (list_at lists (level * 64 + (from + offset) % 64)))) where
  abbrev slot : ℕ
  slot = level * 64 + (from + offset) % 64

  slot-low : slot < 320
  slot-low = omega (arith, in-levels)

  pub stands : slot_of b due ≡ slot
  stands = by_same (slot_of b due ≡ slot) slot (slot_of b due)
      (λ e. sym e)
      (λ n. absurd (omega (arith, some, ap (λ l. length l) (wheel.in_place due slot n))))

  near : (b < due) × (due < b + 1073741824)
  near = near_by_slot b due (omega (arith, stands, slot-low))

  pub level-is : level_of b due ≡ level
  level-is = omega (arith, stands, slot_in-range b due near.0 near.1)

  digit-is : due / width level % 64 ≡ (from + offset) % 64
  digit-is = subst (λ k. due / width k % 64 ≡ (from + offset) % 64) level-is (omega (arith, stands, slot-in b due near.0 near.1, level-is))

  place-is : due / width level ≡ b / width level + 1 + offset
  place-is =
      let range : (b / width level < due / width level) × (due / width level ≤ b / width level + 64) =
      subst (λ k. (b / width k < due / width k) × (due / width k ≤ b / width k + 64)) level-is (ahead b due near.0 near.1) in
      round-offset (b / width level) (due / width level) offset range.0 range.1 first.within (digit-is ∙ ap (λ f. (f + offset) % 64) from-is)

  -- a timer of the same level in another slot is further ahead
  further : (e : ℕ) → b < e → e < b + 1073741824 → level_of b e ≡ level → slot_of b e ≢ slot → 1 ≤ length (list_at lists (slot_of b e))
      → due / width level < e / width level
  further e lt up at n there =
      let range : (b / width level < e / width level) × (e / width level ≤ b / width level + 64) =
      subst (λ k. (b / width k < e / width k) × (e / width k ≤ b / width k + 64)) at (ahead b e lt up) in
      let its-slot : slot_of b e ≡ level * 64 + e / width level % 64 = slot-in b e lt up ∙ ap (λ k. slot_at k e) at in
      let back : (from + (e / width level - b / width level - 1)) % 64 ≡ e / width level % 64 = ap (λ f. (f + (e / width level - b / width level - 1)) % 64) from-is
      ∙ round-back (b / width level) (e / width level) range.0 range.1 in
      let not-same : e / width level ≢ due / width level = (λ k. n (its-slot ∙ (ap (λ q. level * 64 + q % 64) k ∙ ap (λ r. level * 64 + r) digit-is))) in
      let not-nearer : ¬ (e / width level - b / width level - 1 < offset) = (λ k. omega (
        arith,
        subst (λ j. 1 ≤ length (list_at lists j)) (its-slot ∙ ap (λ r. level * 64 + r) (sym back)) there,
        ap (λ l. length l) (first.before (e / width level - b / width level - 1) k),
      )) in
      omega (arith, range, place-is, not-same, not-nearer)

  other : (e : ℕ) → slot_of b e ≢ slot → slot_of b e < 320 → 1 ≤ length (list_at lists (slot_of b e)) → start_of b due + width (level_of b due) ≤ start_of b e
  other e n low there =
      let up : (b < e) × (e < b + 1073741824) = near_by_slot b e low in
      elim (ltb (level_of b e) level) as (λ v. (ltb (level_of b e) level ≡ v) → start_of b due + width (level_of b due) ≤ start_of b e) [
        | true ↦ (λ k. absurd (omega (
          arith,
          subst (λ j. 1 ≤ length (list_at lists j)) (slot-in b e up.0 up.1) there,
          ap (λ l. length l) (below (level_of b e) (lower-by (level_of b e) level k) (e / width (level_of b e) % 64) (omega arith)),
        )))
        | false ↦ (λ k. by_same (start_of b due + width (level_of b due) ≤ start_of b e) (level_of b e) level
            (λ at. behind_slot b due e level level-is at (further e up.0 up.1 at n there))
            (λ o. behind_level b due e near.0 up.0 (higher-by (level_of b e) level (level_of b due) k o level-is)))
      ] refl

  pub first-slot : IsFirstSlot b lists slot (start_of b due) (start_of b due + width (level_of b due))
  first-slot = record {
    holds = first.holds;
    in_level = slot-low;
    ahead = start_after b due near.0;
    spans = omega (arith, start_le b due, before_end b due);
    start_is = (λ e at. let up : (b < e) × (e < b + 1073741824) = near_by_slot b e (omega (arith, at, slot-low)) in
        same_start b e due up.0 up.1 near.0 near.1 (at ∙ sym stands));
    own = (λ e at.
        let up : (b < e) × (e < b + 1073741824) = near_by_slot b e (omega (arith, at, slot-low)) in
        let starts : start_of b e ≡ start_of b due = same_start b e due up.0 up.1 near.0 near.1 (at ∙ sym stands) in
        let level-same : level_of b e ≡ level_of b due = (same_slot b e due up.0 up.1 near.0 near.1 (at ∙ sym stands)).0 in
        (omega (arith, starts, start_le b e), omega (arith, starts, before_end b e, ap (λ k. width k) level-same)));
    others = other;
  }
