-- What stands in a wheel when a slot is reached and its timers move down.
use Rattle.std.proofs.Common.{◌≡◌, ◌≢◌, ℕ, ◌+◌, ◌≤◌, ◌<◌, List, [], ◌∷◌, ◌++◌, length, eqb, leb, cond, true, false, refl, ap, sym, ◌∙◌, arith, set, subst, ◌⊎◌, inl, inr}
use Rattle.std.proofs.lemmas.Bool.Decides.{nat_tests}
use Rattle.std.proofs.lemmas.List.{append-nil, append_assoc, get_or_past, length-set}
use Rattle.std.proofs.lemmas.List.Elements.{filter-append}
use Rattle.sip_timers.specs.declared.timer.Timer.{Timer}
use Rattle.sip_timers_wheel.specs.Lists.{list_at}
use Rattle.sip_timers_wheel.specs.Places.{slot_of, start_of, level_of, width}
use Rattle.sip_timers_wheel.specs.Order.{due_at}
use Rattle.sip_timers_wheel.specs.Wheel.{StandInPlace, IsWheel, pending_in, IsFirstSlot, AreMoved, GoesElsewhere}
use Rattle.sip_timers_wheel.proofs.Order.{StaysOrdered, due_at-other}
use Rattle.sip_timers_wheel.proofs.Moments.{slot-late, slot-none, slot_below, slot_known, slot_stays, slot_falls, same_start, same_slot, before_end}
use Rattle.sip_timers_wheel.proofs.Lists.{list_at-same, list_at-other}
use Rattle.sip_timers_wheel.proofs.Changes.{by_same, by_cases, same_pending}

-- ---- the moment of a slot

same-by : (x y : ℕ) → eqb x y ≡ true → x ≡ y
same-by x y e = grind (arith, nat_tests, e)

is-itself : (x : ℕ) → eqb x x ≡ false → ⊥
is-itself x e = grind (arith, nat_tests, e)

pub by_moment : (P : Type 0) (b d : ℕ) → (d ≤ b → P) → (b < d → d < b + 1073741824 → P) → (b + 1073741824 ≤ d → P) → P
by_moment P b d late near far =
    elim (leb d b) as (λ v. (leb d b ≡ v) → P) [
      | true ↦ (λ e. late (grind (arith, nat_tests, e)))
      | false ↦ (λ e. elim (leb (b + 1073741824) d) as (λ v. (leb (b + 1073741824) d ≡ v) → P) [
        | true ↦ (λ f. far (grind (arith, nat_tests, f)))
        | false ↦ (λ f. near (grind (arith, nat_tests, e)) (grind (arith, nat_tests, f)))
      ] refl)
    ] refl

-- a slot of a level has what is due behind the moment that was reached
pub near_by_slot : (b d : ℕ) → slot_of b d < 320 → (b < d) × (d < b + 1073741824)
near_by_slot b d h = by_moment ((b < d) × (d < b + 1073741824)) b d
    (λ late. absurd (omega (arith, h, slot-late b d late)))
    (λ lt near. (lt, near))
    (λ far. absurd (omega (arith, h, slot-none b d far)))

pub by_length : (P : Type 0) (ts : List Timer) → (ts ≡ [] → P) → (1 ≤ length ts → P) → P
by_length P [] none some = none refl
by_length P (t ∷ ts) none some = some (omega arith)

-- ---- one timer moves

pub moved-none : (start slot : ℕ) (lists : List (List Timer)) → AreMoved start slot [] lists lists
moved-none start slot lists = record {
  left = refl;
  others = (λ d i n. elim (eqb i (slot_of start d)) as (λ v. due_at d (list_at lists i) ≡ due_at d (list_at lists i) ++ cond v [] []) [
    | true ↦ sym (append-nil (due_at d (list_at lists i)))
    | false ↦ sym (append-nil (due_at d (list_at lists i)))
  ]);
  slots = refl;
}

module _ (start slot : ℕ) (moved : List Timer) (old now : List (List Timer)) (t : Timer) (rest : List Timer) (to : ℕ) (so_far : AreMoved start slot moved old now)
    (first : list_at now slot ≡ t ∷ rest) (goes : slot_of start t.due ≡ to) (differ : to ≢ slot) (slot-within : slot < length now) (to-within : to < length now) where
  abbrev pub new : List (List Timer)
  new = set (set now slot rest) to (list_at now to ++ t ∷ [])

  pub new-slot : list_at new slot ≡ rest
  new-slot = list_at-other (set now slot rest) to slot (list_at now to ++ t ∷ []) (λ e. differ (sym e)) ∙ list_at-same now slot rest slot-within

  new-to : list_at new to ≡ list_at now to ++ t ∷ []
  new-to = list_at-same (set now slot rest) to (list_at now to ++ t ∷ []) (rw (length-set now slot rest) to-within)

  new-other : (i : ℕ) → i ≢ slot → i ≢ to → list_at new i ≡ list_at now i
  new-other i n m = list_at-other (set now slot rest) to i (list_at now to ++ t ∷ []) m ∙ list_at-other now slot i rest n

  elsewhere : (d : ℕ) → slot_of start d ≢ to → due_at d (t ∷ []) ≡ []
  elsewhere d n = due_at-other d t [] (λ e. n (ap (λ x. slot_of start x) e ∙ goes))

  more : (d : ℕ) → due_at d (moved ++ t ∷ []) ≡ due_at d moved ++ due_at d (t ∷ [])
  more d = filter-append (λ u. eqb u.due d) moved (t ∷ [])

  at-to : (d : ℕ) → to ≢ slot → due_at d (list_at new to) ≡ due_at d (list_at old to) ++ cond (eqb to (slot_of start d)) (due_at d (moved ++ t ∷ [])) []
  at-to d n =
      let began : due_at d (list_at new to) ≡ due_at d (list_at now to) ++ due_at d (t ∷ []) = ap (λ l. due_at d l) new-to
      ∙ filter-append (λ u. eqb u.due d) (list_at now to) (t ∷ []) in
      let before : due_at d (list_at new to) ≡ (due_at d (list_at old to) ++ cond (eqb to (slot_of start d)) (due_at d moved) []) ++ due_at d (t ∷ []) = began
      ∙ ap (λ l. l ++ due_at d (t ∷ [])) (so_far.others d to n) in
      before ∙ elim (eqb to (slot_of start d)) as (λ v. (eqb to (slot_of start d) ≡ v)
      → (due_at d (list_at old to) ++ cond v (due_at d moved) []) ++ due_at d (t ∷ []) ≡ due_at d (list_at old to) ++ cond v (due_at d (moved ++ t ∷ [])) []) [
        | true ↦ (λ e. append_assoc (due_at d (list_at old to)) (due_at d moved) (due_at d (t ∷ [])) ∙ ap (λ l. due_at d (list_at old to) ++ l) (sym (more d)))
        | false ↦ (λ e. ap (λ l. (due_at d (list_at old to) ++ []) ++ l) (elsewhere d (λ k. grind (arith, nat_tests, e, k)))
            ∙ append-nil (due_at d (list_at old to) ++ []))
      ] refl

  at-other : (d i : ℕ) → i ≢ slot → i ≢ to → due_at d (list_at new i) ≡ due_at d (list_at old i) ++ cond (eqb i (slot_of start d)) (due_at d (moved ++ t ∷ [])) []
  at-other d i n m =
      ap (λ l. due_at d l) (new-other i n m) ∙ (so_far.others d i n
      ∙ elim (eqb i (slot_of start d)) as (λ v. (eqb i (slot_of start d) ≡ v) → due_at d (list_at old i) ++ cond v (due_at d moved) [] ≡ due_at d (list_at old i)
      ++ cond v (due_at d (moved ++ t ∷ [])) []) [
        | true ↦ (λ e. ap (λ l. due_at d (list_at old i) ++ l) (sym (more d ∙ (ap (λ l. due_at d moved ++ l) (elsewhere d (λ k. m (same-by i (slot_of start d) e ∙ k)))
            ∙ append-nil (due_at d moved)))))
        | false ↦ (λ e. refl)
      ] refl)

  pub moved-more : AreMoved start slot (moved ++ t ∷ []) old new
  moved-more = record {
    left = so_far.left ∙ (ap (λ l. moved ++ l) first ∙ (sym (append_assoc moved (t ∷ []) rest) ∙ ap (λ l. (moved ++ t ∷ []) ++ l) (sym new-slot)));
    others = (λ d i n. by_same (due_at d (list_at new i) ≡ due_at d (list_at old i) ++ cond (eqb i (slot_of start d)) (due_at d (moved ++ t ∷ [])) []) i to
        (λ e. subst (λ j. due_at d (list_at new j) ≡ due_at d (list_at old j) ++ cond (eqb j (slot_of start d)) (due_at d (moved ++ t ∷ [])) []) (sym e) (at-to d differ))
        (λ m. at-other d i n m));
    slots = length-set (set now slot rest) to (list_at now to ++ t ∷ []) ∙ (length-set now slot rest ∙ so_far.slots);
  }

-- ---- all have moved

-- once a moment of the first slot is reached, by which its front timer is due at the earliest
module _ (b : ℕ) (old : List (List Timer)) (slot start end due to : ℕ) (wheel : IsWheel b old) (first : IsFirstSlot b old slot start end) (front : slot_of b due ≡ slot)
    (begun : start ≤ to) (soon : to ≤ due) where
  before : to < end
  before = omega (arith, soon, first.own due front)

  inside : (d : ℕ) → slot_of b d ≡ slot → to < start_of b d + width (level_of b d)
  inside d at =
      let near : (b < d) × (d < b + 1073741824) = near_by_slot b d (omega (arith, at, first.in_level)) in
      let known : (b < due) × (due < b + 1073741824) = near_by_slot b due (omega (arith, front, first.in_level)) in
      let starts : start_of b d ≡ start_of b due = same_start b d due near.0 near.1 known.0 known.1 (at ∙ sym front) in
      let levels : level_of b d ≡ level_of b due = (same_slot b d due near.0 near.1 known.0 known.1 (at ∙ sym front)).0 in
      omega (arith, soon, before_end b due, starts, ap (λ k. width k) levels)

  -- what stands in another slot stays there
  stays-there : (d : ℕ) → slot_of b d ≢ slot → (due_at d (list_at old (slot_of b d)) ≡ []) ⊎ (slot_of to d ≡ slot_of b d)
  stays-there d n = by_length ((due_at d (list_at old (slot_of b d)) ≡ []) ⊎ (slot_of to d ≡ slot_of b d)) (list_at old (slot_of b d))
      (λ none. inl (ap (λ l. due_at d l) none))
      (λ some. by_moment ((due_at d (list_at old (slot_of b d)) ≡ []) ⊎ (slot_of to d ≡ slot_of b d)) b d
      (λ late. inr (slot-late to d (omega (arith, late, first.ahead, begun)) ∙ sym (slot-late b d late)))
      (λ lt near. inr (slot_stays b to d (omega (arith, first.ahead, begun)) lt near (omega (arith, before, first.others d n (slot_below b d lt near) some))))
      (λ far. inl (ap (λ l. due_at d l) (ap (λ i. list_at old i) (slot-none b d far) ∙ get_or_past old 321 [] (omega (arith, wheel.slots))))))

  -- what stands in the slot leaves it
  leaves : (d : ℕ) → slot_of b d ≡ slot → slot_of to d ≢ slot
  leaves d e =
      let near : (b < d) × (d < b + 1073741824) = near_by_slot b d (omega (arith, e, first.in_level)) in
      (λ k. slot_falls b to d near.0 near.1 (omega (arith, begun, first.start_is d e)) (inside d e) (k ∙ sym e))

  module _ (new : List (List Timer)) (moved : List Timer) (all : AreMoved to slot moved old new) (emptied : list_at new slot ≡ []) where
    all-moved : list_at old slot ≡ moved
    all-moved = all.left ∙ (ap (λ l. moved ++ l) emptied ∙ append-nil moved)

    same-dues : (d : ℕ) → due_at d moved ≡ due_at d (list_at old slot)
    same-dues d = ap (λ l. due_at d l) (sym all-moved)

    to-its-slot : (d : ℕ) → slot_of to d ≢ slot → due_at d (list_at new (slot_of to d)) ≡ due_at d (list_at old (slot_of to d)) ++ due_at d (list_at old slot)
    to-its-slot d n = all.others d (slot_of to d) n ∙ elim (eqb (slot_of to d) (slot_of to d)) as (λ v. (eqb (slot_of to d) (slot_of to d) ≡ v)
        → due_at d (list_at old (slot_of to d)) ++ cond v (due_at d moved) [] ≡ due_at d (list_at old (slot_of to d)) ++ due_at d (list_at old slot)) [
          | true ↦ (λ e. ap (λ l. due_at d (list_at old (slot_of to d)) ++ l) (same-dues d))
          | false ↦ (λ e. absurd (is-itself (slot_of to d) e))
        ] refl

    to-no-other : (d i : ℕ) → i ≢ slot → i ≢ slot_of to d → due_at d (list_at new i) ≡ due_at d (list_at old i)
    to-no-other d i n m = all.others d i n ∙ elim (eqb i (slot_of to d)) as (λ v. (eqb i (slot_of to d) ≡ v)
        → due_at d (list_at old i) ++ cond v (due_at d moved) [] ≡ due_at d (list_at old i)) [
          | true ↦ (λ e. absurd (m (same-by i (slot_of to d) e)))
          | false ↦ (λ e. append-nil (due_at d (list_at old i)))
        ] refl

    nothing-left : (d i : ℕ) → i ≢ slot → i ≢ slot_of to d → due_at d (list_at old i) ≡ []
    nothing-left d i n m = by_same (due_at d (list_at old i) ≡ []) i (slot_of b d)
        (λ e. subst (λ j. due_at d (list_at old j) ≡ []) (sym e) (by_cases (due_at d (list_at old (slot_of b d)) ≡ []) (stays-there d (λ k. n (e ∙ k))) (λ none. none)
        (λ same. absurd (m (e ∙ sym same)))))
        (λ o. wheel.in_place d i o)

    pub moved-in_place : StandInPlace to new
    moved-in_place d i m = by_same (due_at d (list_at new i) ≡ []) i slot
        (λ e. ap (λ l. due_at d l) (ap (λ j. list_at new j) e ∙ emptied))
        (λ n. to-no-other d i n m ∙ nothing-left d i n m)

    moved-dues : (d : ℕ) → due_at d (list_at new (slot_of to d)) ≡ due_at d (list_at old (slot_of b d))
    moved-dues d = by_same (due_at d (list_at new (slot_of to d)) ≡ due_at d (list_at old (slot_of b d))) (slot_of b d) slot
        (λ e. to-its-slot d (leaves d e)
        ∙ (ap (λ l. l ++ due_at d (list_at old slot)) (wheel.in_place d (slot_of to d) (λ k. leaves d e (k ∙ e)))
        ∙ ap (λ j. due_at d (list_at old j)) (sym e)))
        (λ n. by_cases (due_at d (list_at new (slot_of to d)) ≡ due_at d (list_at old (slot_of b d))) (stays-there d n)
        (λ none. by_same (due_at d (list_at new (slot_of to d)) ≡ due_at d (list_at old (slot_of b d))) (slot_of to d) slot
        (λ k. ap (λ l. due_at d l) (ap (λ j. list_at new j) k ∙ emptied) ∙ sym none)
        (λ k. to-its-slot d k ∙ (ap (λ l. due_at d (list_at old (slot_of to d)) ++ l) (wheel.in_place d slot (λ z. n (sym z)))
        ∙ (append-nil (due_at d (list_at old (slot_of to d)))
        ∙ by_same (due_at d (list_at old (slot_of to d)) ≡ due_at d (list_at old (slot_of b d))) (slot_of to d) (slot_of b d)
        (λ z. ap (λ j. due_at d (list_at old j)) z)
        (λ z. wheel.in_place d (slot_of to d) z ∙ sym none)))))
        (λ same. to-its-slot d (λ k. n (sym same ∙ k))
        ∙ (ap (λ l. due_at d (list_at old (slot_of to d)) ++ l) (wheel.in_place d slot (λ z. n (sym z)))
        ∙ (append-nil (due_at d (list_at old (slot_of to d)))
        ∙ ap (λ j. due_at d (list_at old j)) same))))

    pub moved-wheel : IsWheel to new
    moved-wheel = record { slots = all.slots ∙ wheel.slots; in_place = moved-in_place }

    pub moved-pending : StaysOrdered → pending_in new ≡ pending_in old
    moved-pending set = same_pending set to b new old moved-in_place wheel.in_place moved-dues

-- whatever is due in the first slot goes to another one
pub first-goes : (b : ℕ) (old : List (List Timer)) (slot start end due to : ℕ) → IsWheel b old → IsFirstSlot b old slot start end → slot_of b due ≡ slot → start ≤ to
    → to ≤ due → GoesElsewhere to slot old
first-goes b old slot start end due to wheel first front begun soon d some =
    by_same ((slot_of to d ≢ slot) × (slot_of to d < length old)) slot (slot_of b d)
    (λ e.
    let near : (b < d) × (d < b + 1073741824) = near_by_slot b d (omega (arith, sym e, first.in_level)) in
    (leaves b old slot start end due to wheel first front begun soon d (sym e), omega (arith, wheel.slots, slot_known to d (omega (arith, near, first.ahead, begun)))))
    (λ n. absurd (grind (arith, some, ap (λ l. length l) (wheel.in_place d slot n))))

-- where no slot is reached all stay
pub unreached-wheel : (b now : ℕ) (lists : List (List Timer)) → IsWheel b lists → b ≤ now
    → ((d : ℕ) → slot_of b d < 320 → 1 ≤ length (list_at lists (slot_of b d)) → now < start_of b d) → IsWheel now lists
unreached-wheel b now lists wheel le none = record {
  slots = wheel.slots;
  in_place = (λ d i n. by_same (due_at d (list_at lists i) ≡ []) i (slot_of b d)
      (λ e. by_length (due_at d (list_at lists i) ≡ []) (list_at lists i)
      (λ nil. ap (λ l. due_at d l) nil)
      (λ some. by_moment (due_at d (list_at lists i) ≡ []) b d
      (λ late. absurd (n (e ∙ (slot-late b d late ∙ sym (slot-late now d (omega (arith, late, le)))))))
      (λ lt near. absurd (n (e ∙ sym (slot_stays b now d le lt near (none d (slot_below b d lt near) (subst (λ j. 1 ≤ length (list_at lists j)) e some))))))
      (λ far. absurd (omega (
        arith,
        subst (λ j. 1 ≤ length (list_at lists j)) (e ∙ slot-none b d far) some,
        ap (λ l. length l) (get_or_past lists 321 [] (omega (arith, wheel.slots))),
      )))))
      (λ o. wheel.in_place d i o));
}
