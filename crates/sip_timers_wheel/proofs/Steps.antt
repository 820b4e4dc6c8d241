-- What each call of a wheel leaves.
use Rattle.std.proofs.Common.{◌≡◌, ◌≢◌, ℕ, ◌+◌, ◌*◌, ◌/◌, ◌%◌, ◌≤◌, ◌<◌, List, [], ◌∷◌, ◌++◌, length, eqb, leb, cond, true, false, refl, ap, sym, ◌∙◌, arith, subst, set}
use Rattle.std.proofs.Common.{drop, ltb, Option, Some, None, ◌⊎◌, inl, inr}
use Rattle.std.specs.Prelude.{not, ◌&&◌, count_by, IfNone, MatchOption}
use Rattle.std.proofs.lemmas.Bool.{cases_lt}
use Rattle.std.proofs.lemmas.Bool.Decides.{nat_tests}
use Rattle.std.proofs.lemmas.List.{length-set, length-append, get_or_past}
use Rattle.std.proofs.lemmas.List.Elements.{filter-append}
use Rattle.sip_timers.specs.declared.timer.Timer.{Timer}
use Rattle.sip_timers.specs.Timers.{placed, without, keys_with, first_due, popped, AreOrdered}
use Rattle.sip_timers_wheel.specs.Lists.{list_at, concat, first_of, least}
use Rattle.sip_timers_wheel.specs.Threads.{sooner}
use Rattle.sip_timers_wheel.specs.Places.{slot_of, start_of, level_of, width}
use Rattle.sip_timers_wheel.specs.Order.{due_at}
use Rattle.sip_timers_wheel.specs.Wheel.{IsWheel, pending_in, IsFirstSlot, IsEmptyLevel, AreMoved, AreUnreached, GoesElsewhere}
use Rattle.sip_timers_wheel.proofs.Order.{AreOrdered-in_order, StaysOrdered, StandsThen, due_at-same, count-in_order}
use Rattle.sip_timers_wheel.proofs.Moments.{before_end, behind_level, behind_slot, slot_known, slot-late, slot-none, slot-in, same_start, start_le, level_below}
use Rattle.sip_timers_wheel.proofs.Lists.{without-none}
use Rattle.sip_timers_wheel.proofs.Changes.{by_same, seen, pushed-in_place, pushed-pending, key-here, gone-in_place, gone-pending}
use Rattle.sip_timers_wheel.proofs.Moves.{by_moment, near_by_slot, moved-more, new-slot}
use Rattle.sip_timers_wheel.proofs.First.{least-before, none-least, head-first, none-pending, some-is}
use Rattle.sip_timers_wheel.proofs.Dues.{least_rising}
use Rattle.sip_timers.proofs.Counting.{count-cons}

-- a moment whose slot has a list is near
pub near-by : (b d : ℕ) → slot_of b d < 321 → d < b + 1073741824
near-by b d h = by_moment (d < b + 1073741824) b d (λ le. omega (arith, le)) (λ lt near. near) (λ far. absurd (omega (arith, h, slot-none b d far)))

-- ---- a timer is set

module _ (b : ℕ) (lists new : List (List Timer)) (t : Timer) (slot : ℕ) (wheel : IsWheel b lists) (near : t.due < b + 1073741824) (at : slot ≡ slot_of b t.due)
    (pushed : new ≡ set lists slot (list_at lists slot ++ t ∷ [])) where
  in-range : slot < length lists
  in-range = omega (arith, wheel.slots, at, slot_known b t.due near)

  pub added-wheel : IsWheel b new
  added-wheel = subst (λ l. IsWheel b l) (sym pushed) (record {
    slots = length-set lists slot (list_at lists slot ++ t ∷ []) ∙ wheel.slots;
    in_place = pushed-in_place b lists t slot (sym at) in-range wheel.in_place;
  })

  pub added-pending : StaysOrdered → pending_in new ≡ placed t (pending_in lists)
  added-pending stays = ap (λ l. pending_in l) pushed ∙ pushed-pending b lists t slot (sym at) in-range wheel.in_place stays

pub added-fresh : StandsThen → (key : ℕ) (lists : List (List Timer)) → keys_with key (concat lists) ≡ 0 → keys_with key (pending_in lists) ≡ 0
added-fresh stands key lists h = count-in_order stands (λ t. eqb t.key key) (concat lists) ∙ h

-- ---- a timer is taken out

module _ (stands : StandsThen) (key : ℕ) (lists : List (List Timer)) where
  pub present-in : 1 ≤ keys_with key (pending_in lists) → 1 ≤ keys_with key (concat lists)
  present-in h = omega (arith, h, count-in_order stands (λ t. eqb t.key key) (concat lists))

  pub once-in : keys_with key (concat lists) ≤ 1 → keys_with key (pending_in lists) ≤ 1
  once-in h = omega (arith, h, count-in_order stands (λ t. eqb t.key key) (concat lists))

module _ (b : ℕ) (lists : List (List Timer)) (key due : ℕ) (wheel : IsWheel b lists) (known : count_by (λ t. eqb t.key key && not (eqb t.due due)) (concat lists) ≡ 0)
    (some : 1 ≤ keys_with key (concat lists)) where
  pub taken-present : 1 ≤ keys_with key (list_at lists (slot_of b due))
  taken-present = key-here b lists key due wheel.in_place known some

  pub taken-known : slot_of b due < 321
  taken-known = by_moment (slot_of b due < 321) b due
      (λ le. slot_known b due (omega (arith, le)))
      (λ lt near. slot_known b due near)
      (λ far. absurd (omega (
        arith,
        taken-present,
        ap (λ l. keys_with key l) (ap (λ i. list_at lists i) (slot-none b due far)
            ∙ get_or_past lists 321 [] (omega (arith, wheel.slots))),
      )))

  pub taken-near : due < b + 1073741824
  taken-near = near-by b due taken-known

  module _ (new : List (List Timer)) (slot : ℕ) (at : slot ≡ slot_of b due) (gone : new ≡ set lists slot (without key (list_at lists slot))) where
    taken-range : slot < length lists
    taken-range = omega (arith, wheel.slots, at, taken-known)

    pub taken-wheel : IsWheel b new
    taken-wheel = subst (λ l. IsWheel b l) (sym gone) (record {
      slots = length-set lists slot (without key (list_at lists slot)) ∙ wheel.slots;
      in_place = gone-in_place b lists key due wheel.in_place known slot (sym at) taken-range;
    })

    pub taken-pending : StaysOrdered → ((k : ℕ) (ts : List Timer) → AreOrdered ts → AreOrdered (without k ts)) → pending_in new ≡ without key (pending_in lists)
    taken-pending stays left = ap (λ l. pending_in l) gone ∙ gone-pending b lists key due wheel.in_place known slot (sym at) taken-range stays left

-- ---- the first one is taken out

pub first-goes-out : (t : Timer) (ts : List Timer) → ts ≡ t ∷ drop 1 ts → keys_with t.key ts ≤ 1 → without t.key ts ≡ drop 1 ts
first-goes-out t ts e once =
    let rest : keys_with t.key (drop 1 ts) ≡ 0 = grind (arith, nat_tests, count-cons (λ u. eqb u.key t.key) t (drop 1 ts), ap (λ l. keys_with t.key l) e, once) in
    ap (λ l. without t.key l) e ∙ elim (eqb t.key t.key) as (λ v. (eqb t.key t.key ≡ v)
    → cond (not v) (t ∷ without t.key (drop 1 ts)) (without t.key (drop 1 ts)) ≡ drop 1 ts) [
      | true ↦ (λ k. without-none t.key (drop 1 ts) rest)
      | false ↦ (λ k. absurd (grind (arith, nat_tests, k)))
    ] refl

abbrev pub pair : Timer → List Timer → Option Timer × List Timer
pair t l = (Some t, l)

popped-cons : (now : ℕ) (t : Timer) (rest : List Timer) → t.due ≤ now → popped now (t ∷ rest) ≡ pair t rest
popped-cons now t rest le = elim (leb t.due now) as (λ v. (leb t.due now ≡ v) → cond {A = Option Timer × List Timer} v (Some t, rest) (None, t ∷ rest) ≡ pair t rest) [
  | true ↦ (λ k. refl)
  | false ↦ (λ k. absurd (grind (arith, nat_tests, k, le)))
] refl

pub popped-first : (now : ℕ) (t : Timer) (old ts new : List Timer) → old ≡ ts → ts ≡ t ∷ drop 1 ts → new ≡ without t.key ts → keys_with t.key ts ≤ 1 → t.due ≤ now
    → pair t new ≡ popped now old
popped-first now t old ts new same e gone once le =
    let out : new ≡ drop 1 ts = gone ∙ first-goes-out t ts e once in
    ap (λ (l : List Timer). pair t l) out ∙ (sym (popped-cons now t (drop 1 ts) le) ∙ ap (λ l. popped now l) (sym (same ∙ e)))

abbrev pub none-of : List Timer → Option Timer × List Timer
none-of l = (None, l)

none-popped : (now b : ℕ) (ts : List Timer) → now ≤ b → ((due : ℕ) → first_due ts ≡ Some due → b < due) → none-of ts ≡ popped now ts
none-popped now b [] le later = refl
none-popped now b (t ∷ rest) le later =
    let far : leb t.due now ≡ false = grind (arith, nat_tests, le, later t.due refl) in
    ap (λ v. cond v (pair t rest) (none-of (t ∷ rest))) (sym far)

-- nothing is taken out where the first one is due later
pub popped-none : (now b : ℕ) (old ts : List Timer) → old ≡ ts → now ≤ b → ((due : ℕ) → first_due ts ≡ Some due → b < due) → none-of ts ≡ popped now old
popped-none now b old ts same le later = none-popped now b ts le later ∙ ap (λ l. popped now l) (sym same)

pub first-split : (t : Timer) (old ts new : List Timer) → old ≡ ts → ts ≡ t ∷ drop 1 ts → new ≡ without t.key ts → keys_with t.key ts ≤ 1 → old ≡ t ∷ new
first-split t old ts new same e gone once = same ∙ (e ∙ ap (λ l. t ∷ l) (sym (gone ∙ first-goes-out t ts e once)))

-- ---- one timer moves

pub by_due : (P : Type 0) (ts : List Timer) (due : ℕ) → first_due ts ≡ Some due → ((t : Timer) (rest : List Timer) → ts ≡ t ∷ rest → t.due ≡ due → P) → P
by_due P [] due h some = absurd (grind (arith, h))
by_due P (t ∷ rest) due h some = some t rest refl (grind (arith, h))

pub some-due : (ts : List Timer) (due : ℕ) → first_due ts ≡ Some due → 1 ≤ length (due_at due ts)
some-due ts due h = by_due (1 ≤ length (due_at due ts)) ts due h (λ t rest e d. subst (λ l. 1 ≤ length (due_at due l)) (sym e)
    (subst (λ x. 1 ≤ length (due_at x (t ∷ rest))) d (omega (arith, ap (λ l. length l) (due_at-same t rest)))))

module _ (start slot : ℕ) (moved : List Timer) (old now : List (List Timer)) (due : ℕ) (so_far : AreMoved start slot moved old now)
    (first : first_due (list_at now slot) ≡ Some due) (goes : GoesElsewhere start slot old) (slots : length old ≡ 321) (low : slot < 321) where
  pub goes-now : (slot_of start due ≢ slot) × (slot_of start due < length old)
  goes-now = goes due (subst (λ l. 1 ≤ length (due_at due l)) (sym so_far.left) (omega (
    arith,
    some-due (list_at now slot) due first,
    ap (λ l. length l) (filter-append (λ t. eqb t.due due) moved (list_at now slot)),
    length-append (due_at due moved) (due_at due (list_at now slot)),
  )))

  module _ (new-lists : List (List Timer)) (to : ℕ) (at : to ≡ slot_of start due) (moves : (t : Timer) (rest : List Timer) → list_at now slot ≡ t ∷ rest
      → new-lists ≡ set (set now slot rest) to (list_at now to ++ t ∷ [])) where
    pub still-moved : (x : List Timer) × AreMoved start slot x old new-lists
    still-moved = by_due ((x : List Timer) × AreMoved start slot x old new-lists) (list_at now slot) due first (λ t rest e d. (
      moved ++ t ∷ [],
      subst (λ l. AreMoved start slot (moved ++ t ∷ []) old l) (sym (moves t rest e))
          (moved-more start slot moved old now t rest to so_far e (ap (λ x. slot_of start x) d ∙ sym at) (λ k. goes-now.0 (sym at ∙ k))
          (omega (arith, so_far.slots, slots, low)) (omega (arith, so_far.slots, at, goes-now.1))),
    ))

    pub fewer-left : length (list_at new-lists slot) < length (list_at now slot)
    fewer-left = by_due (length (list_at new-lists slot) < length (list_at now slot)) (list_at now slot) due first (λ t rest e d.
        omega (
          arith,
          ap (λ l. length l) e,
          ap (λ l. length (list_at l slot)) (moves t rest e),
          ap (λ l. length l) (new-slot start slot moved old now t rest to so_far e (ap (λ x. slot_of start x) d ∙ sym at) (λ k. goes-now.0 (sym at ∙ k))
              (omega (arith, so_far.slots, slots, low)) (omega (arith, so_far.slots, at, goes-now.1))),
        ))

-- ---- what is first

module _ (stays : StaysOrdered) (b : ℕ) (lists : List (List Timer)) (wheel : IsWheel b lists) (none-late : least (list_at lists 320) ≡ None) where
  pub first-none : ((level : ℕ) → level < 5 → IsEmptyLevel lists level) → pending_in lists ≡ []
  first-none none = none-pending stays b lists wheel (none-least (list_at lists 320) none-late) none

  pub first-some : (slot start end : ℕ) (result : Option Timer) → IsFirstSlot b lists slot start end → result ≡ least (list_at lists slot)
      → MatchOption result (pending_in lists ≡ []) (λ first. pending_in lists ≡ first ∷ drop 1 (pending_in lists))
  first-some slot start end None first e = absurd (omega (arith, first.holds, ap (λ l. length l) (none-least (list_at lists slot) (sym e))))
  first-some slot start end (Some l) first e = head-first stays b lists wheel slot start end l (none-least (list_at lists 320) none-late) first (sym e)

  -- what is due first is due later than the moment that was reached
  pub first-later : (due : ℕ) → first_due (pending_in lists) ≡ Some due → b < due
  first-later due is = by_moment (b < due) b due
      (λ late. absurd (omega (
        arith,
        some-due (pending_in lists) due is,
        ap (λ l. length l) (seen stays b lists wheel.in_place due),
        ap (λ i. length (due_at due (list_at lists i))) (slot-late b due late),
        ap (λ l. length (due_at due l)) (none-least (list_at lists 320) none-late),
      )))
      (λ lt near. lt)
      (λ far. omega (arith, far))

-- what is late, as it is asked for
module _ (stays : StaysOrdered) (b : ℕ) (lists : List (List Timer)) (wheel : IsWheel b lists) where
  pub none-late : (result : Option Timer) → result ≡ least (list_at lists 320) → IfNone result ((due : ℕ) → first_due (pending_in lists) ≡ Some due → b < due)
  none-late None e = first-later stays b lists wheel (sym e)
  none-late (Some l) e = tt

-- ---- the first one, as it is remembered

pub none-first : (ts : List Timer) → ts ≡ [] → None ≡ first_of ts
none-first ts e = ap (λ l. first_of l) (sym e)

pub some-first : (t : Timer) (ts : List Timer) → ts ≡ t ∷ drop 1 ts → Some t ≡ first_of ts
some-first t ts e = ap (λ l. first_of l) (sym e)

pub match-first : (result : Option Timer) (ts : List Timer) → MatchOption result (ts ≡ []) (λ first. ts ≡ first ∷ drop 1 ts) → result ≡ first_of ts
match-first None ts e = none-first ts e
match-first (Some t) ts e = some-first t ts e

pub first-is : (t : Timer) (ts : List Timer) → Some t ≡ first_of ts → ts ≡ t ∷ drop 1 ts
first-is t [] e = absurd (grind (arith, e))
first-is t (u ∷ us) e = ap (λ x. x ∷ us) (some-is u t (sym e))

pub first-placed : (t : Timer) (ts : List Timer) → sooner (first_of ts) (Some t) ≡ first_of (placed t ts)
first-placed t [] = refl
first-placed t (u ∷ us) = elim (ltb t.due u.due) as (λ v. Some (cond v t u) ≡ first_of (cond v (t ∷ u ∷ us) (u ∷ placed t us))) [
  | true ↦ refl
  | false ↦ refl
]

pub none-due : (b : ℕ) (ts : List Timer) → None ≡ first_of ts → (due : ℕ) → first_due ts ≡ Some due → b < due
none-due b [] e due h = absurd (grind (arith, h))
none-due b (t ∷ ts) e due h = absurd (grind (arith, e))

-- ---- what isn't reached

pub none-reached : (b now : ℕ) (lists : List (List Timer)) → ((level : ℕ) → level < 5 → IsEmptyLevel lists level) → AreUnreached b now lists
none-reached b now lists none d low some =
    let near : (b < d) × (d < b + 1073741824) = near_by_slot b d low in
    absurd (omega (
      arith,
      some,
      ap (λ l. length l) (ap (λ i. list_at lists i) (slot-in b d near.0 near.1)
          ∙ none (level_of b d) (level_below b d) (d / width (level_of b d) % 64) (omega arith)),
    ))

pub later-reached : (b now : ℕ) (lists : List (List Timer)) (slot start end : ℕ) → IsFirstSlot b lists slot start end → now < start → AreUnreached b now lists
later-reached b now lists slot start end first later d low some = by_same (now < start_of b d) (slot_of b d) slot
    (λ e. omega (arith, later, first.start_is d e))
    (λ n. omega (arith, later, first.spans, first.others d n low some))

by_order : (P : Type 0) (x y : ℕ) → (x < y → P) → (x ≡ y → P) → (y < x → P) → P
by_order P x y less same more = by_two (cases_lt x y) where
  by_two : (x < y) ⊎ (y ≤ x) → P
  by_two (inl lt) = less lt
  by_two (inr ge) = by_same P x y same (λ n. more (omega (arith, ge, n)))

-- the slot of what is due earlier begins no later
start_rises : (b d e : ℕ) → b < d → d ≤ e → start_of b d ≤ start_of b e
start_rises b d e lt le = by_order (start_of b d ≤ start_of b e) (level_of b d) (level_of b e)
    (λ below. omega (arith, behind_level b d e lt (omega (arith, lt, le)) below))
    (λ same. by_order (start_of b d ≤ start_of b e) (d / width (level_of b e)) (e / width (level_of b e))
    (λ less. omega (arith, behind_slot b d e (level_of b e) same refl less))
    (λ at. omega (arith, ap (λ l. d / width l * width l) same ∙ ap (λ q. q * width (level_of b e)) at))
    (λ more. absurd (omega (arith, behind_slot b e d (level_of b e) refl same more, start_le b d, before_end b e, le))))
    (λ above. absurd (omega (arith, behind_level b e d (omega (arith, lt, le)) lt above, start_le b d, before_end b e, le)))

by_front : (P : Type 0) (ts : List Timer) → 1 ≤ length ts → ((t : Timer) (rest : List Timer) → ts ≡ t ∷ rest → P) → P
by_front P [] some f = absurd (omega (arith, some))
by_front P (t ∷ ts) some f = f t ts refl

no-first : (ts : List Timer) → None ≡ first_of ts → ts ≡ []
no-first [] e = refl
no-first (t ∷ ts) e = absurd (grind (arith, e))

-- where the slot of the timer that fires first begins after a moment, each slot does
module _ (stays : StaysOrdered) (b : ℕ) (lists : List (List Timer)) (wheel : IsWheel b lists) (now : ℕ) where
  -- none that stands is due before the first
  no_earlier : (t : Timer) (ts : List Timer) → Some t ≡ first_of ts → AreOrdered ts → (d : ℕ) → 1 ≤ length (due_at d ts) → t.due ≤ d
  no_earlier t [] first ordered d some = absurd (grind (arith, first))
  no_earlier t (u ∷ us) first ordered d some =
      let same : u ≡ t = some-is u t (sym first) in
      by_order (t.due ≤ d) d u.due
      (λ lt. absurd (omega (arith, some, ap (λ l. length l) (least-before (u ∷ us) u (least_rising u us ordered) d lt))))
      (λ e. omega (arith, e, ap (λ x. x.due) same))
      (λ gt. omega (arith, gt, ap (λ x. x.due) same))

  ahead-of : (t : Timer) → Some t ≡ first_of (pending_in lists) → (b < t.due) × (now < start_of b t.due) → AreUnreached b now lists
  ahead-of t first far d low some = by_front (now < start_of b d) (list_at lists (slot_of b d)) some (λ u us is.
      let its-slot : slot_of b u.due ≡ slot_of b d = by_same (slot_of b u.due ≡ slot_of b d) (slot_of b d) (slot_of b u.due)
      (λ e. sym e)
      (λ n. absurd (omega (arith, ap (λ l. length l) (sym (ap (λ l. due_at u.due l) is ∙ due_at-same u us) ∙ wheel.in_place u.due (slot_of b d) n)))) in
      let near : (b < d) × (d < b + 1073741824) = near_by_slot b d low in
      let its-near : (b < u.due) × (u.due < b + 1073741824) = near_by_slot b u.due (omega (arith, its-slot, low)) in
      let stands : 1 ≤ length (due_at u.due (pending_in lists)) = omega (
        arith,
        ap (λ l. length l)
            (seen stays b lists wheel.in_place u.due ∙ (ap (λ i. due_at u.due (list_at lists i)) its-slot ∙ (ap (λ l. due_at u.due l) is ∙ due_at-same u us))),
      ) in
      let later : t.due ≤ u.due = no_earlier t (pending_in lists) first (AreOrdered-in_order stays (concat lists)) u.due stands in
      omega (arith, far.1, start_rises b t.due u.due far.0 later, same_start b u.due d its-near.0 its-near.1 near.0 near.1 its-slot))

  pub first-ahead : (first : Option Timer) → first ≡ first_of (pending_in lists) → ((t : Timer) → first ≡ Some t → (b < t.due) × (now < start_of b t.due))
      → AreUnreached b now lists
  first-ahead None first far d low some = by_front (now < start_of b d) (list_at lists (slot_of b d)) some (λ u us is.
      let its-slot : slot_of b u.due ≡ slot_of b d = by_same (slot_of b u.due ≡ slot_of b d) (slot_of b d) (slot_of b u.due)
      (λ e. sym e)
      (λ n. absurd (omega (arith, ap (λ l. length l) (sym (ap (λ l. due_at u.due l) is ∙ due_at-same u us) ∙ wheel.in_place u.due (slot_of b d) n)))) in
      absurd (omega (
        arith,
        ap (λ l. length l) (sym (seen stays b lists wheel.in_place u.due
            ∙ (ap (λ i. due_at u.due (list_at lists i)) its-slot ∙ (ap (λ l. due_at u.due l) is ∙ due_at-same u us)))
            ∙ ap (λ ts. due_at u.due ts) (no-first (pending_in lists) first)),
      )))
  first-ahead (Some t) first far d low some = ahead-of t first (far t refl) d low some
