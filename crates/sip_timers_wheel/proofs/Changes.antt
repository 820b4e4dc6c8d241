-- What stands in a wheel when a timer is set or cancelled.
use Rattle.std.proofs.Common.{◌≡◌, ◌≢◌, ℕ, ◌≤◌, ◌<◌, List, [], ◌∷◌, ◌++◌, length, eqb, true, false, refl, ap, sym, ◌∙◌, arith, set, subst, ◌⊎◌, inl, inr}
use Rattle.std.specs.Prelude.{not, ◌&&◌, count_by}
use Rattle.std.proofs.lemmas.Bool.Decides.{nat_tests}
use Rattle.std.proofs.lemmas.List.{append-nil}
use Rattle.std.proofs.lemmas.List.Elements.{filter-append}
use Rattle.sip_timers.specs.declared.timer.Timer.{Timer}
use Rattle.sip_timers.specs.Timers.{placed, without, keys_with, AreOrdered}
use Rattle.sip_timers_wheel.specs.Lists.{list_at, concat}
use Rattle.sip_timers_wheel.specs.Places.{slot_of}
use Rattle.sip_timers_wheel.specs.Order.{due_at}
use Rattle.sip_timers_wheel.specs.Wheel.{StandInPlace, pending_in}
use Rattle.sip_timers_wheel.proofs.Order.{StaysOrdered, AreOrdered-in_order, due_at-in_order, due_at-placed, due_at-other, same_by_dues}
use Rattle.sip_timers_wheel.proofs.Lists.{due_at-concat, list_at-same, list_at-other, filter-swap, without-none, count-at_le}
use Rattle.sip_timers.proofs.Counting.{count_split, count_le, count-filter}

-- by cases on whether two numbers are the same
pub by_same : (P : Type 0) (x y : ℕ) → (x ≡ y → P) → (x ≢ y → P) → P
by_same P x y same other =
    elim (eqb x y) as (λ v. (eqb x y ≡ v) → P) [
      | true ↦ (λ e. same (grind (arith, nat_tests, e)))
      | false ↦ (λ e. other (grind (arith, nat_tests, e)))
    ] refl

pub by_cases : (P : Type 0) {A B : Type 0} → A ⊎ B → (A → P) → (B → P) → P
by_cases P (inl a) f g = f a
by_cases P (inr b) f g = g b

pub seen : StaysOrdered → (b : ℕ) (lists : List (List Timer)) → StandInPlace b lists → (d : ℕ) → due_at d (pending_in lists) ≡ due_at d (list_at lists (slot_of b d))
seen set b lists h d = due_at-in_order set d (concat lists) ∙ due_at-concat d lists (slot_of b d) (λ i n. h d i n)

-- lists in which the same timers of each moment stand in its slot have the same timers
pub same_pending : StaysOrdered → (b c : ℕ) (xs ys : List (List Timer)) → StandInPlace b xs → StandInPlace c ys
    → ((d : ℕ) → due_at d (list_at xs (slot_of b d)) ≡ due_at d (list_at ys (slot_of c d))) → pending_in xs ≡ pending_in ys
same_pending set b c xs ys hx hy same =
    same_by_dues (pending_in xs) (pending_in ys) (AreOrdered-in_order set (concat xs)) (AreOrdered-in_order set (concat ys))
    (λ d. seen set b xs hx d ∙ (same d ∙ sym (seen set c ys hy d)))

-- ---- a timer is set

module _ (b : ℕ) (lists : List (List Timer)) (t : Timer) (slot : ℕ) (at : slot_of b t.due ≡ slot) (within : slot < length lists) (h : StandInPlace b lists) where
  alone : (d : ℕ) → slot_of b d ≢ slot → due_at d (t ∷ []) ≡ []
  alone d n = due_at-other d t [] (λ e. n (ap (λ x. slot_of b x) e ∙ at))

  pushed-at : (d : ℕ) → due_at d (list_at (set lists slot (list_at lists slot ++ t ∷ [])) slot) ≡ due_at d (list_at lists slot) ++ due_at d (t ∷ [])
  pushed-at d = ap (λ l. due_at d l) (list_at-same lists slot (list_at lists slot ++ t ∷ []) within) ∙ filter-append (λ u. eqb u.due d) (list_at lists slot) (t ∷ [])

  pub pushed-in_place : StandInPlace b (set lists slot (list_at lists slot ++ t ∷ []))
  pushed-in_place d i n = by_same (due_at d (list_at (set lists slot (list_at lists slot ++ t ∷ [])) i) ≡ []) i slot
      (λ e. subst (λ j. due_at d (list_at (set lists slot (list_at lists slot ++ t ∷ [])) j) ≡ []) (sym e)
      (pushed-at d ∙ (ap (λ l. l ++ due_at d (t ∷ [])) (h d slot (λ k. n (e ∙ k))) ∙ alone d (λ k. n (e ∙ sym k)))))
      (λ o. ap (λ l. due_at d l) (list_at-other lists slot i (list_at lists slot ++ t ∷ []) o) ∙ h d i n)

  pushed-dues : (d : ℕ) → due_at d (list_at (set lists slot (list_at lists slot ++ t ∷ [])) (slot_of b d)) ≡ due_at d (list_at lists (slot_of b d)) ++ due_at d (t ∷ [])
  pushed-dues d = by_same (due_at d (list_at (set lists slot (list_at lists slot ++ t ∷ [])) (slot_of b d)) ≡ due_at d (list_at lists (slot_of b d)) ++ due_at d (t ∷ []))
      (slot_of b d) slot
      (λ e. subst (λ j. due_at d (list_at (set lists slot (list_at lists slot ++ t ∷ [])) j) ≡ due_at d (list_at lists j) ++ due_at d (t ∷ [])) (sym e) (pushed-at d))
      (λ o. ap (λ l. due_at d l) (list_at-other lists slot (slot_of b d) (list_at lists slot ++ t ∷ []) o)
      ∙ (sym (append-nil (due_at d (list_at lists (slot_of b d)))) ∙ ap (λ l. due_at d (list_at lists (slot_of b d)) ++ l) (sym (alone d o))))

  pub pushed-pending : StaysOrdered → pending_in (set lists slot (list_at lists slot ++ t ∷ [])) ≡ placed t (pending_in lists)
  pushed-pending stays =
      let ordered : AreOrdered (pending_in lists) = AreOrdered-in_order stays (concat lists) in
      same_by_dues (pending_in (set lists slot (list_at lists slot ++ t ∷ []))) (placed t (pending_in lists))
      (AreOrdered-in_order stays (concat (set lists slot (list_at lists slot ++ t ∷ []))))
      (stays t (pending_in lists) ordered)
      (λ d. seen stays b (set lists slot (list_at lists slot ++ t ∷ [])) pushed-in_place d
      ∙ (pushed-dues d
      ∙ (ap (λ l. l ++ due_at d (t ∷ [])) (sym (seen stays b lists h d))
      ∙ sym (due_at-placed d t (pending_in lists) ordered))))

-- ---- a timer is taken out

module _ (b : ℕ) (lists : List (List Timer)) (key due : ℕ) (h : StandInPlace b lists)
    (known : count_by (λ t. eqb t.key key && not (eqb t.due due)) (concat lists) ≡ 0) where
  key-elsewhere : (d : ℕ) → d ≢ due → keys_with key (due_at d (list_at lists (slot_of b d))) ≡ 0
  key-elsewhere d n =
      let counted : keys_with key (due_at d (list_at lists (slot_of b d))) ≡ count_by (λ t. eqb t.due d && eqb t.key key) (list_at lists (slot_of b d)) =
      count-filter (λ t. eqb t.key key) (λ t. eqb t.due d) (list_at lists (slot_of b d)) in
      let fewer : count_by (λ t. eqb t.due d && eqb t.key key) (list_at lists (slot_of b d)) ≤ count_by (λ t. eqb t.key key && not (eqb t.due due))
      (list_at lists (slot_of b d)) = count_le (λ t. eqb t.due d && eqb t.key key) (λ t. eqb t.key key && not (eqb t.due due)) (list_at lists (slot_of b d))
      (λ t k. grind (arith, nat_tests, k, n)) in
      omega (arith, counted, fewer, known, count-at_le (λ t. eqb t.key key && not (eqb t.due due)) lists (slot_of b d))

  -- the slot of the moment has the key
  pub key-here : 1 ≤ keys_with key (concat lists) → 1 ≤ keys_with key (list_at lists (slot_of b due))
  key-here some =
      let split = count_split (λ t. eqb t.key key) (λ t. eqb t.due due) (concat lists) in
      let none : count_by (λ t. not (eqb t.due due) && eqb t.key key) (concat lists) ≤ count_by (λ t. eqb t.key key && not (eqb t.due due)) (concat lists) =
      count_le (λ t. not (eqb t.due due) && eqb t.key key) (λ t. eqb t.key key && not (eqb t.due due)) (concat lists) (λ t k. grind (arith, nat_tests, k)) in
      let then : keys_with key (due_at due (concat lists)) ≡ count_by (λ t. eqb t.due due && eqb t.key key) (concat lists) =
      count-filter (λ t. eqb t.key key) (λ t. eqb t.due due) (concat lists) in
      let here : keys_with key (due_at due (concat lists)) ≡ keys_with key (due_at due (list_at lists (slot_of b due))) =
      ap (λ l. keys_with key l) (due_at-concat due lists (slot_of b due) (λ i n. h due i n)) in
      let counted : keys_with key (due_at due (list_at lists (slot_of b due))) ≡ count_by (λ t. eqb t.due due && eqb t.key key) (list_at lists (slot_of b due)) =
      count-filter (λ t. eqb t.key key) (λ t. eqb t.due due) (list_at lists (slot_of b due)) in
      let fewer : count_by (λ t. eqb t.due due && eqb t.key key) (list_at lists (slot_of b due)) ≤ keys_with key (list_at lists (slot_of b due)) =
      count_le (λ t. eqb t.due due && eqb t.key key) (λ t. eqb t.key key) (list_at lists (slot_of b due)) (λ t k. grind (arith, nat_tests, k)) in
      omega (arith, some, split, none, known, then, here, counted, fewer)

  module _ (slot : ℕ) (at : slot_of b due ≡ slot) (within : slot < length lists) where
    gone-at : (d : ℕ) → due_at d (list_at (set lists slot (without key (list_at lists slot))) slot) ≡ without key (due_at d (list_at lists slot))
    gone-at d = ap (λ l. due_at d l) (list_at-same lists slot (without key (list_at lists slot)) within)
        ∙ filter-swap (λ t. eqb t.due d) (λ t. not (eqb t.key key)) (list_at lists slot)

    pub gone-in_place : StandInPlace b (set lists slot (without key (list_at lists slot)))
    gone-in_place d i n = by_same (due_at d (list_at (set lists slot (without key (list_at lists slot))) i) ≡ []) i slot
        (λ e. subst (λ j. due_at d (list_at (set lists slot (without key (list_at lists slot))) j) ≡ []) (sym e)
        (gone-at d ∙ ap (λ l. without key l) (h d slot (λ k. n (e ∙ k)))))
        (λ o. ap (λ l. due_at d l) (list_at-other lists slot i (without key (list_at lists slot)) o) ∙ h d i n)

    gone-dues : (d : ℕ) → due_at d (list_at (set lists slot (without key (list_at lists slot))) (slot_of b d)) ≡ without key (due_at d (list_at lists (slot_of b d)))
    gone-dues d = by_same (due_at d (list_at (set lists slot (without key (list_at lists slot))) (slot_of b d)) ≡ without key (due_at d (list_at lists (slot_of b d))))
        (slot_of b d) slot
        (λ e. subst (λ j. due_at d (list_at (set lists slot (without key (list_at lists slot))) j) ≡ without key (due_at d (list_at lists j))) (sym e) (gone-at d))
        (λ o. ap (λ l. due_at d l) (list_at-other lists slot (slot_of b d) (without key (list_at lists slot)) o)
        ∙ sym (without-none key (due_at d (list_at lists (slot_of b d))) (key-elsewhere d (λ e. o (ap (λ x. slot_of b x) e ∙ at)))))

    pub gone-pending : StaysOrdered → ((k : ℕ) (ts : List Timer) → AreOrdered ts → AreOrdered (without k ts))
        → pending_in (set lists slot (without key (list_at lists slot))) ≡ without key (pending_in lists)
    gone-pending stays left =
        same_by_dues (pending_in (set lists slot (without key (list_at lists slot)))) (without key (pending_in lists))
        (AreOrdered-in_order stays (concat (set lists slot (without key (list_at lists slot)))))
        (left key (pending_in lists) (AreOrdered-in_order stays (concat lists)))
        (λ d. seen stays b (set lists slot (without key (list_at lists slot))) gone-in_place d
        ∙ (gone-dues d
        ∙ (ap (λ l. without key l) (sym (seen stays b lists h d))
        ∙ filter-swap (λ t. not (eqb t.key key)) (λ t. eqb t.due d) (pending_in lists))))
