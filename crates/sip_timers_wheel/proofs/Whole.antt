-- All lists at once: what a step at one slot leaves of them.
use Rattle.std.proofs.Common.{◌≡◌, ◌≢◌, ◌⊎◌, ℕ, zero, suc, ◌+◌, ◌≤◌, ◌<◌, List, [], ◌∷◌, ◌++◌, length, map, get_or, set, Option, Some, None, is_some, cond, eqb, Bool}
use Rattle.std.proofs.Common.{true, false, refl, sym, ap, subst, ◌∙◌, inl, inr, arith, length-append, length-set, append-nil, take, drop}
use Rattle.std.specs.Prelude.{not, ◌&&◌, count_by}
use Rattle.std.proofs.lemmas.Bool.{cases_eq}
use Rattle.std.proofs.lemmas.Bool.Decides.{nat_tests}
use Rattle.std.proofs.Math.ListN.{replicate}
use Rattle.std.proofs.lemmas.List.{get_or-set_same, get_or-set_other, get_or-map, set-get_or, length-replicate, take_all, drop_all}
use Rattle.std.proofs.lemmas.List.Sums.{sum_by-append, sum_by-cons}
use Rattle.slab.specs.Slab.{Slab, get, ContainsKey, Updates, slab_len}
use Rattle.sip_timers.specs.declared.timer.Timer.{Timer}
use Rattle.sip_timers.specs.Timers.{keys_with, without, KeysDiffer}
use Rattle.sip_timers_wheel.specs.declared.row.RowNumber.{RowNumber}
use Rattle.sip_timers_wheel.specs.declared.row.TimerRow.{TimerRow}
use Rattle.sip_timers_wheel.specs.declared.head.ListHead.{ListHead}
use Rattle.sip_timers_wheel.specs.Lists.{concat}
use Rattle.sip_timers_wheel.specs.Threads.{number_of, first_or, row_of, IsThread, list_of, lists_of, no_head, KnowsLeast, IsHeld, AreHeld, SameSize}
use Rattle.sip_timers_wheel.proofs.Threads.{keys_with-cons, keys_with-append, key_is_once, without_none, keys_without, IsThread-frame, split_at}
use Rattle.sip_timers_wheel.proofs.Holding.{same_row, held_is, row_stands}

-- ---- one slot among all

count-concat : (p : Timer → Bool) (ts : List Timer) (lists : List (List Timer)) → count_by p (concat (ts ∷ lists)) ≡ count_by p ts + count_by p (concat lists)
count-concat p ts lists = sum_by-append (λ t. cond (p t) 1 0) ts (concat lists)

-- when a slot has other timers, so do all slots together
count-set : (p : Timer → Bool) (lists : List (List Timer)) (slot : ℕ) (ts : List Timer) → slot < length lists
    → count_by p (concat (set lists slot ts)) + count_by p (get_or lists slot []) ≡ count_by p (concat lists) + count_by p ts
count-set p [] slot ts within = absurd (omega arith)
count-set p (us ∷ lists) zero ts within = omega (arith, count-concat p us lists, count-concat p ts lists)
count-set p (us ∷ lists) (suc slot) ts within = omega (arith, count-set p lists slot ts (omega arith), count-concat p us lists, count-concat p us (set lists slot ts))

length-set_concat : (lists : List (List Timer)) (slot : ℕ) (ts : List Timer) → slot < length lists
    → length (concat (set lists slot ts)) + length (get_or lists slot []) ≡ length (concat lists) + length ts
length-set_concat [] slot ts within = absurd (omega arith)
length-set_concat (us ∷ lists) zero ts within = omega (arith, length-append us (concat lists), length-append ts (concat lists))
length-set_concat (us ∷ lists) (suc slot) ts within = omega (
  arith,
  length-set_concat lists slot ts (omega arith),
  length-append us (concat lists),
  length-append us (concat (set lists slot ts)),
)

count_of_one : (p : Timer → Bool) (lists : List (List Timer)) (slot : ℕ) → count_by p (get_or lists slot []) ≤ count_by p (concat lists)
count_of_one p [] slot = omega arith
count_of_one p (ts ∷ lists) zero = omega (arith, count-concat p ts lists)
count_of_one p (ts ∷ lists) (suc slot) = omega (arith, count-concat p ts lists, count_of_one p lists slot)

pub length_of_one : (lists : List (List Timer)) (slot : ℕ) → length (get_or lists slot []) ≤ length (concat lists)
length_of_one [] slot = omega arith
length_of_one (ts ∷ lists) zero = omega (arith, length-append ts (concat lists))
length_of_one (ts ∷ lists) (suc slot) = omega (arith, length-append ts (concat lists), length_of_one lists slot)

count_of_two : (p : Timer → Bool) (lists : List (List Timer)) (i j : ℕ) → i ≢ j → count_by p (get_or lists i []) + count_by p (get_or lists j []) ≤ count_by p
    (concat lists)
count_of_two p [] i j differ = omega arith
count_of_two p (ts ∷ lists) zero zero differ = absurd (differ refl)
count_of_two p (ts ∷ lists) zero (suc j) differ = omega (arith, count-concat p ts lists, count_of_one p lists j)
count_of_two p (ts ∷ lists) (suc i) zero differ = omega (arith, count-concat p ts lists, count_of_one p lists i)
count_of_two p (ts ∷ lists) (suc i) (suc j) differ = omega (arith, count-concat p ts lists, count_of_two p lists i j (λ e. differ (ap suc e)))

-- what passes in no slot passes in none of all
pub count_none : (p : Timer → Bool) (lists : List (List Timer)) → ((slot : ℕ) → count_by p (get_or lists slot []) ≡ 0) → count_by p (concat lists) ≡ 0
count_none p [] none = refl
count_none p (ts ∷ lists) none = omega (arith, count-concat p ts lists, none 0, count_none p lists (λ slot. none (suc slot)))

-- ---- what the heads and rows say

-- the lists that are met are those that are held
met_lists : (rows : Slab TimerRow) (heads : List ListHead) (lists : List (List Timer)) → length heads ≡ length lists
    → ((slot : ℕ) → IsHeld rows (get_or heads slot no_head) (get_or lists slot [])) → map (list_of rows) heads ≡ lists
met_lists rows [] [] slots held = refl
met_lists rows [] (ts ∷ lists) slots held = absurd (omega arith)
met_lists rows (head ∷ heads) [] slots held = absurd (omega arith)
met_lists rows (head ∷ heads) (ts ∷ lists) slots held =
    let first : list_of rows head ≡ ts = held_is rows head ts (held 0) in
    let rest : map (list_of rows) heads ≡ lists = met_lists rows heads lists (omega arith) (λ slot. held (suc slot)) in
    cc

pub lists_are : (spare : ℕ) (rows : Slab TimerRow) (heads : List ListHead) (lists : List (List Timer)) → AreHeld spare rows heads lists → lists_of rows heads ≡ lists
lists_are spare rows heads lists held = met_lists rows heads lists held.slots held.held

pub held_again : (spare : ℕ) (rows : Slab TimerRow) (heads : List ListHead) (lists : List (List Timer)) → AreHeld spare rows heads lists
    → AreHeld spare rows heads (lists_of rows heads)
held_again spare rows heads lists held = let P : List (List Timer) → Type 0 = λ ls. AreHeld spare rows heads ls in
    subst P (sym (lists_are spare rows heads lists held)) held

pub list_is : (rows : Slab TimerRow) (heads : List ListHead) (slot : ℕ) (d : ListHead) → slot < length heads
    → get_or (lists_of rows heads) slot [] ≡ list_of rows (get_or heads slot d)
list_is rows heads slot d within = get_or-map (list_of rows) heads slot d [] within

pub keys_differ_in : (spare : ℕ) (rows : Slab TimerRow) (heads : List ListHead) (lists : List (List Timer)) (slot : ℕ) → AreHeld spare rows heads lists
    → KeysDiffer (get_or lists slot [])
keys_differ_in spare rows heads lists slot held = λ key. omega (arith, held.once key, count_of_one (λ t. eqb t.key key) lists slot)

held_frame : (old new : Slab TimerRow) (head : ListHead) (ts : List Timer) → ((key : ℕ) → 1 ≤ keys_with key ts → get new key ≡ get old key) → length ts ≤ slab_len new
    → IsHeld old head ts → IsHeld new head ts
held_frame old new head ts keeps fits held =
    record {
      thread = IsThread-frame old new None ts None keeps held.thread;
      first = held.first;
      last = held.last;
      rising = held.rising;
      known = held.known;
      second = held.second;
      fits = fits;
    }

-- a key that no row has is that of no timer
pub absent : (spare : ℕ) (rows : Slab TimerRow) (heads : List ListHead) (lists : List (List Timer)) (key : ℕ) → AreHeld spare rows heads lists → get rows key ≡ None
    → keys_with key (concat lists) ≡ 0
absent spare rows heads lists key held none =
    count_none (λ t. eqb t.key key) lists (λ slot. elim (cases_zero (keys_with key (get_or lists slot []))) [
      | inl none_here ↦ none_here
      | inr more ↦ absurd (let stands = row_stands rows None (get_or lists slot []) None key ((held.held slot).thread) more in
          let some : is_some (get rows key) ≡ true = stands in cc)
    ])
  where
    cases_zero : (n : ℕ) → (n ≡ 0) ⊎ (1 ≤ n)
    cases_zero zero = inl refl
    cases_zero (suc n) = inr (omega arith)

-- a timer of a slot has a row
pub row_in_slot : (spare : ℕ) (rows : Slab TimerRow) (heads : List ListHead) (lists : List (List Timer)) (slot key : ℕ) → AreHeld spare rows heads lists
    → 1 ≤ keys_with key (get_or lists slot []) → ContainsKey rows key
row_in_slot spare rows heads lists slot key held stands = row_stands rows None (get_or lists slot []) None key ((held.held slot).thread) stands

-- ---- steps

-- a step at one slot, which changes rows of its old and new timers alone
pub held_step : (spare spare_after : ℕ) (old new : Slab TimerRow) (heads : List ListHead) (lists : List (List Timer)) (slot : ℕ) (head : ListHead) (ts : List Timer)
    → AreHeld spare old heads lists → slot < length heads → IsHeld new head ts → ((key : ℕ) → keys_with key (get_or lists slot []) ≡ 0 → keys_with key ts ≡ 0
    → get new key ≡ get old key) → ((key : ℕ) → keys_with key (concat (set lists slot ts)) ≤ 1) → slab_len new ≡ length (concat (set lists slot ts)) + spare_after
    → AreHeld spare_after new (set heads slot head) (set lists slot ts)
held_step spare spare_after old new heads lists slot head ts held within now keeps once counted =
    record {
      slots = length-set heads slot head ∙ held.slots ∙ sym (length-set lists slot ts);
      held = λ i. elim (cases_eq i slot) [
        | inl same ↦ (let P : ℕ → Type 0 = λ k. IsHeld new (get_or (set heads slot head) k no_head) (get_or (set lists slot ts) k []) in subst P (sym same) here)
        | inr other ↦ rw (get_or-set_other heads slot i head no_head other, get_or-set_other lists slot i ts [] other) (there i other)
      ];
      once = once;
      counted = counted;
    }
  where
    in_lists : slot < length lists
    in_lists = omega (arith, within, held.slots)

    here : IsHeld new (get_or (set heads slot head) slot no_head) (get_or (set lists slot ts) slot [])
    here = rw (get_or-set_same heads slot head no_head within, get_or-set_same lists slot ts [] in_lists) now

    there : (i : ℕ) → i ≢ slot → IsHeld new (get_or heads i no_head) (get_or lists i [])
    there i other =
        let same : get_or (set lists slot ts) i [] ≡ get_or lists i [] = get_or-set_other lists slot i ts [] other in
        let mine : get_or (set lists slot ts) slot [] ≡ ts = get_or-set_same lists slot ts [] in_lists in
        held_frame old new (get_or heads i no_head) (get_or lists i [])
        (λ key stands. keeps key
        (omega (arith, stands, held.once key, count_of_two (λ t. eqb t.key key) lists i slot other))
        (omega (arith, stands, once key, ap (keys_with key) same, ap (keys_with key) mine, count_of_two (λ t. eqb t.key key) (set lists slot ts) i slot other)))
        (omega (arith, counted, ap length same, length_of_one (set lists slot ts) i))
        (held.held i)

pub key_is_gone : (key : ℕ) (ts : List Timer) → keys_with key (without key ts) ≡ 0
key_is_gone key [] = refl
key_is_gone key (t ∷ ts) =
    elim (eqb t.key key) as (λ b. (eqb t.key key ≡ b) → keys_with key (cond (not b) (t ∷ without key ts) (without key ts)) ≡ 0) [
      | true ↦ (λ e. key_is_gone key ts)
      | false ↦ (λ e. grind (arith, nat_tests, keys_with-cons key t (without key ts), key_is_gone key ts))
    ] refl

length_without : (key : ℕ) (ts : List Timer) → KeysDiffer ts → 1 ≤ keys_with key ts → length ts ≡ length (without key ts) + 1
length_without key ts differ stands =
    let split = split_at key ts differ stands in
    omega (arith, ap length split.whole, ap length split.rest, length-append split.front (split.timer ∷ split.back), length-append split.front split.back)

-- a timer is taken out of its slot; its row is spare
pub held_taken_at : (old new : Slab TimerRow) (heads : List ListHead) (lists : List (List Timer)) (slot : ℕ) (head : ListHead) (key : ℕ) → AreHeld 0 old heads lists
    → slot < length heads → 1 ≤ keys_with key (get_or lists slot []) → IsHeld new head (without key (get_or lists slot []))
    → ((other : ℕ) → keys_with other (without key (get_or lists slot [])) ≡ 0 → get new other ≡ get old other) → SameSize old new
    → AreHeld 1 new (set heads slot head) (set lists slot (without key (get_or lists slot [])))
held_taken_at old new heads lists slot head key held within stands now keeps size =
    let ts = get_or lists slot [] in
    let inside : slot < length lists = omega (arith, within, held.slots) in
    let differ = keys_differ_in 0 old heads lists slot held in
    held_step 0 1 old new heads lists slot head (without key ts) held within now
    (λ other none_old none_new. keeps other none_new)
    (λ other. omega (arith, held.once other, count-set (λ t. eqb t.key other) lists slot (without key ts) inside, keys_without key other ts))
    (omega (arith, size.len, held.counted, length-set_concat lists slot (without key ts) inside, length_without key ts differ stands))

-- the timer that was taken out stands nowhere
pub gone_everywhere : (spare : ℕ) (old : Slab TimerRow) (heads : List ListHead) (lists : List (List Timer)) (slot key : ℕ) → AreHeld spare old heads lists
    → slot < length heads
    → 1 ≤ keys_with key (get_or lists slot []) → keys_with key (concat (set lists slot (without key (get_or lists slot [])))) ≡ 0
gone_everywhere spare old heads lists slot key held within stands =
    let inside : slot < length lists = omega (arith, within, held.slots) in
    omega (arith, stands, held.once key, count-set (λ t. eqb t.key key) lists slot (without key (get_or lists slot [])) inside, key_is_gone key (get_or lists slot []))

-- a spare row is put behind the others of a slot
pub held_put_at : (old new : Slab TimerRow) (heads : List ListHead) (lists : List (List Timer)) (slot : ℕ) (head : ListHead) (t : Timer) → AreHeld 1 old heads lists
    → slot < length heads → keys_with t.key (concat lists) ≡ 0 → IsHeld new head (get_or lists slot [] ++ t ∷ [])
    → ((other : ℕ) → keys_with other (get_or lists slot []) ≡ 0 → other ≢ t.key → get new other ≡ get old other) → SameSize old new
    → AreHeld 0 new (set heads slot head) (set lists slot (get_or lists slot [] ++ t ∷ []))
held_put_at old new heads lists slot head t held within fresh now keeps size =
    let ts = get_or lists slot [] in
    let inside : slot < length lists = omega (arith, within, held.slots) in
    held_step 1 0 old new heads lists slot head (ts ++ t ∷ []) held within now
    (λ other none_old none_new. keeps other none_old (λ e. other_key other ts none_new e))
    (λ other. once_with other inside)
    (omega (arith, size.len, held.counted, length-set_concat lists slot (ts ++ t ∷ []) inside, length-append ts (t ∷ [])))
  where
    other_key : (other : ℕ) (ts : List Timer) → keys_with other (ts ++ t ∷ []) ≡ 0 → other ≡ t.key → ⊥
    other_key other ts none e = let sum = keys_with-append other ts (t ∷ []) in grind (arith, nat_tests, keys_with-cons other t [])

    single : (other : ℕ) → keys_with other (concat lists) + keys_with other (t ∷ []) ≤ 1
    single other =
        let one = held.once other in
        elim (eqb t.key other) as (λ b. (eqb t.key other ≡ b) → keys_with other (concat lists) + keys_with other (t ∷ []) ≤ 1) [
          | true ↦ (λ e. let same : t.key ≡ other = grind (arith, nat_tests) in let none : keys_with other (concat lists) ≡ 0 = rw same at fresh in
              grind (arith, nat_tests, keys_with-cons other t []))
          | false ↦ (λ e. grind (arith, nat_tests, keys_with-cons other t []))
        ] refl

    once_with : (other : ℕ) → slot < length lists → keys_with other (concat (set lists slot (get_or lists slot [] ++ t ∷ []))) ≤ 1
    once_with other inside = omega (
      arith,
      single other,
      keys_with-append other (get_or lists slot []) (t ∷ []),
      count-set (λ u. eqb u.key other) lists slot (get_or lists slot [] ++ t ∷ []) inside,
    )

-- a row of a new key may be added, and a spare one may be dropped
pub held_inserted : (spare : ℕ) (old new : Slab TimerRow) (heads : List ListHead) (lists : List (List Timer)) (key : ℕ) (slot : Option TimerRow)
    → AreHeld spare old heads lists
    → keys_with key (concat lists) ≡ 0 → Updates old new key slot → (spare_after : ℕ) → slab_len new ≡ length (concat lists) + spare_after
    → AreHeld spare_after new heads lists
held_inserted spare old new heads lists key slot held fresh updates spare_after counted =
    record {
      slots = held.slots;
      held = λ i. held_frame old new (get_or heads i no_head) (get_or lists i [])
          (λ k stands. updates.others k (λ e. omega (arith, stands, ap (λ m. keys_with m (get_or lists i [])) e, count_of_one (λ t. eqb t.key key) lists i)))
          (omega (arith, counted, length_of_one lists i))
          (held.held i);
      once = held.once;
      counted = counted;
    }

-- rows that are all as they were
pub held_same : (spare : ℕ) (old new : Slab TimerRow) (heads : List ListHead) (lists : List (List Timer)) → AreHeld spare old heads lists → new.slots ≡ old.slots
    → AreHeld spare new heads lists
held_same spare old new heads lists held same =
    record {
      slots = held.slots;
      held = λ i. held_frame old new (get_or heads i no_head) (get_or lists i []) (λ k stands. ap (λ s. get_or s k None) same)
          (omega (arith, (held.held i).fits, ap (count_by is_some) same)) (held.held i);
      once = held.once;
      counted = ap (count_by is_some) same ∙ held.counted;
    }

-- ---- the same, where the list is that which is met from the head

pub differ_at : (spare : ℕ) (rows : Slab TimerRow) (heads : List ListHead) (slot : ℕ) (d : ListHead) → AreHeld spare rows heads (lists_of rows heads)
    → slot < length heads
    → KeysDiffer (list_of rows (get_or heads slot d))
differ_at spare rows heads slot d held within = let P : List Timer → Type 0 = λ ts. KeysDiffer ts in
    subst P (list_is rows heads slot d within) (keys_differ_in spare rows heads (lists_of rows heads) slot held)

pub fits_at : (rows : Slab TimerRow) (heads : List ListHead) (slot : ℕ) (d : ListHead) → AreHeld 1 rows heads (lists_of rows heads) → slot < length heads
    → length (list_of rows (get_or heads slot d)) + 1 ≤ slab_len rows
fits_at rows heads slot d held within = omega (arith, held.counted, length_of_one (lists_of rows heads) slot, ap length (list_is rows heads slot d within))

pub fresh_at : (rows : Slab TimerRow) (heads : List ListHead) (slot : ℕ) (d : ListHead) (key : ℕ) → slot < length heads → keys_with key (concat (lists_of rows heads)) ≡ 0
    → keys_with key (list_of rows (get_or heads slot d)) ≡ 0
fresh_at rows heads slot d key within fresh = omega (
  arith,
  fresh,
  count_of_one (λ t. eqb t.key key) (lists_of rows heads) slot,
  ap (keys_with key) (list_is rows heads slot d within),
)

pub taken_at : (old new : Slab TimerRow) (heads : List ListHead) (slot : ℕ) (d head : ListHead) (key : ℕ) → AreHeld 0 old heads (lists_of old heads) → slot < length heads
    → 1 ≤ keys_with key (get_or (lists_of old heads) slot []) → IsHeld new head (without key (list_of old (get_or heads slot d)))
    → ((other : ℕ) → keys_with other (without key (list_of old (get_or heads slot d))) ≡ 0 → get new other ≡ get old other) → SameSize old new
    → AreHeld 1 new (set heads slot head) (set (lists_of old heads) slot (without key (get_or (lists_of old heads) slot [])))
taken_at old new heads slot d head key held within stands now keeps size =
    let e = sym (list_is old heads slot d within) in
    let P : List Timer → Type 0 = λ ts. IsHeld new head (without key ts) in
    let Q : List Timer → Type 0 = λ ts. (other : ℕ) → keys_with other (without key ts) ≡ 0 → get new other ≡ get old other in
    held_taken_at old new heads (lists_of old heads) slot head key held within stands (subst P e now) (subst Q e keeps) size

pub put_at : (old new : Slab TimerRow) (heads : List ListHead) (slot : ℕ) (d head : ListHead) (t : Timer) → AreHeld 1 old heads (lists_of old heads) → slot < length heads
    → keys_with t.key (concat (lists_of old heads)) ≡ 0 → IsHeld new head (list_of old (get_or heads slot d) ++ t ∷ [])
    → ((other : ℕ) → keys_with other (list_of old (get_or heads slot d)) ≡ 0 → other ≢ t.key → get new other ≡ get old other) → SameSize old new
    → AreHeld 0 new (set heads slot head) (set (lists_of old heads) slot (get_or (lists_of old heads) slot [] ++ t ∷ []))
put_at old new heads slot d head t held within fresh now keeps size =
    let e = sym (list_is old heads slot d within) in
    let P : List Timer → Type 0 = λ ts. IsHeld new head (ts ++ t ∷ []) in
    let Q : List Timer → Type 0 = λ ts. (other : ℕ) → keys_with other ts ≡ 0 → other ≢ t.key → get new other ≡ get old other in
    held_put_at old new heads (lists_of old heads) slot head t held within fresh (subst P e now) (subst Q e keeps) size

-- ---- rows that are added, dropped, or only given more room

module _ (old new : Slab TimerRow) (heads : List ListHead) (key : ℕ) (row : TimerRow) where
  -- a new row is spare
  pub inserted : AreHeld 0 old heads (lists_of old heads) → get old key ≡ None → Updates old new key (Some row) → slab_len new ≡ slab_len old + 1
      → AreHeld 1 new heads (lists_of old heads)
  inserted held vacant updates len = held_inserted 0 old new heads (lists_of old heads) key (Some row) held (absent 0 old heads (lists_of old heads) key held vacant)
      updates 1 (omega (arith, len, held.counted))

  pub inserted_fresh : AreHeld 0 old heads (lists_of old heads) → get old key ≡ None → Updates old new key (Some row) → slab_len new ≡ slab_len old + 1
      → keys_with key (concat (lists_of new heads)) ≡ 0
  inserted_fresh held vacant updates len =
      ap (λ ls. keys_with key (concat ls)) (lists_are 1 new heads (lists_of old heads) (inserted held vacant updates len))
      ∙ absent 0 old heads (lists_of old heads) key held vacant

-- the spare row is dropped
pub dropped : (old new : Slab TimerRow) (heads : List ListHead) (key : ℕ) → AreHeld 1 old heads (lists_of old heads) → keys_with key (concat (lists_of old heads)) ≡ 0
    → Updates old new key None → slab_len new + 1 ≡ slab_len old → AreHeld 0 new heads (lists_of old heads)
dropped old new heads key held fresh updates len = held_inserted 1 old new heads (lists_of old heads) key None held fresh updates 0 (omega (arith, len, held.counted))

-- the heads in a `Vec` after all of them were lent
pub heads_are : (len : ℕ) (old now new : List ListHead) → now ≡ old → length now ≡ len → length new ≡ length now → take len (new ++ drop (length new) old) ≡ new
heads_are len old now new same lent kept =
    let none : drop (length new) old ≡ [] = drop_all (length new) old (omega (arith, kept, ap length same)) in
    rw none (rw (append-nil new) (take_all len new (omega (arith, lent, kept))))

-- ---- no timers

same_in_all : {X : Type 0} (count i : ℕ) (x : X) → get_or (replicate count x) i x ≡ x
same_in_all zero i x = refl
same_in_all (suc count) zero x = refl
same_in_all (suc count) (suc i) x = same_in_all count i x

concat_none : (count : ℕ) → concat (replicate count []) ≡ []
concat_none zero = refl
concat_none (suc count) = concat_none count

pub none_held : (rows : Slab TimerRow) (count : ℕ) → rows.slots ≡ [] → AreHeld 0 rows (replicate count no_head) (replicate count [])
none_held rows count empty =
    let none = concat_none count in
    let len : slab_len rows ≡ 0 = ap (count_by is_some) empty in
    let here : IsHeld rows no_head [] = record { thread = tt; first = refl; last = refl; rising = λ e. tt; known = tt; second = tt; fits = omega arith } in
    record {
      slots = length-replicate count no_head ∙ sym (length-replicate {A = List Timer} count []);
      held = λ slot. rw (same_in_all count slot no_head, same_in_all {X = List Timer} count slot []) here;
      once = λ key. omega (arith, ap (keys_with key) none);
      counted = omega (arith, len, ap length none);
    }

pub none_held_by : (rows : Slab TimerRow) (heads : List ListHead) (count : ℕ) → rows.slots ≡ [] → heads ≡ replicate count no_head
    → AreHeld 0 rows heads (replicate count [])
none_held_by rows heads count empty same = rw same (none_held rows count empty)

-- ---- the first timer of a slot

any_default : {X : Type 0} (xs : List X) (i : ℕ) (d e : X) → i < length xs → get_or xs i d ≡ get_or xs i e
any_default [] i d e within = absurd (omega arith)
any_default (x ∷ xs) zero d e within = refl
any_default (x ∷ xs) (suc i) d e within = any_default xs i d e (omega arith)

-- a head that was read has the list of its slot
pub head_is : (spare : ℕ) (rows : Slab TimerRow) (heads : List ListHead) (lists : List (List Timer)) (slot : ℕ) (head : ListHead) → AreHeld spare rows heads lists
    → slot < length heads → head ≡ get_or heads slot head → IsHeld rows head (get_or lists slot [])
head_is spare rows heads lists slot head held within read =
    let P : ListHead → Type 0 = λ h. IsHeld rows h (get_or lists slot []) in
    subst P (any_default heads slot no_head head within ∙ sym read) (held.held slot)

pub record IsFirst (rows : Slab TimerRow) (head : ListHead) (first : Timer) (rest : List Timer) : Type 0 where
  pub numbered : head.first ≡ Some (number_of first)
  pub found : get rows first.key ≡ Some (row_of None first (first_or rest None))
  pub left : without first.key (first ∷ rest) ≡ rest

pub first_is : (rows : Slab TimerRow) (head : ListHead) (ts : List Timer) (first : Timer) (rest : List Timer) → IsHeld rows head ts → KeysDiffer ts → ts ≡ first ∷ rest
    → IsFirst rows head first rest
first_is rows head ts first rest held differ e =
    let P : List Timer → Type 0 = λ us. IsHeld rows head us in
    let Q : List Timer → Type 0 = λ us. KeysDiffer us in
    at_first (subst P e held) (subst Q e differ)
  where
    at_first : IsHeld rows head (first ∷ rest) → KeysDiffer (first ∷ rest) → IsFirst rows head first rest
    at_first held differ =
        let same : eqb first.key first.key ≡ true = grind (arith, nat_tests) in
        record { numbered = held.first; found = (held.thread).0; left = rw same (without_none first.key rest (key_is_once first rest differ)) }

pub moved : (lists taken put : List (List Timer)) (from to key : ℕ) (first : Timer) (rest : List Timer) → from ≢ to → get_or lists from [] ≡ first ∷ rest
    → without first.key (first ∷ rest) ≡ rest → first.key ≡ key → taken ≡ set lists from (without key (get_or lists from []))
    → put ≡ set taken to (get_or taken to [] ++ first ∷ []) → put ≡ set (set lists from rest) to (get_or lists to [] ++ first ∷ [])
moved lists taken put from to key first rest differ begins left keyed taken_is put_is =
    let less : without key (get_or lists from []) ≡ rest = ap (λ k. without k (get_or lists from [])) (sym keyed) ∙ ap (without first.key) begins ∙ left in
    let after : taken ≡ set lists from rest = taken_is ∙ ap (set lists from) less in
    put_is ∙ ap (λ ls. set ls to (get_or ls to [] ++ first ∷ [])) after ∙ ap (λ us. set (set lists from rest) to (us ++ first ∷ []))
    (get_or-set_other lists from to rest [] (λ e. differ (sym e)))

-- ---- when a timer is due

-- no timer of the key of a row is due at another moment
due_in_thread : (rows : Slab TimerRow) (before : Option RowNumber) (ts : List Timer) (after : Option RowNumber) (key : ℕ) (row : TimerRow) → IsThread rows before ts after
    → get rows key ≡ Some row → count_by (λ t. eqb t.key key && not (eqb t.due row.due)) ts ≡ 0
due_in_thread rows before [] after key row p found = refl
due_in_thread rows before (t ∷ ts) after key row p found =
    omega (arith, sum_by-cons (λ u. cond (eqb u.key key && not (eqb u.due row.due)) 1 0) t ts, here, due_in_thread rows (Some (number_of t)) ts after key row p.1 found)
  where
    same_due : t.key ≡ key → t.due ≡ row.due
    same_due e = ap (λ r. r.due) (same_row (row_of before t (first_or ts after)) row (sym p.0 ∙ ap (get rows) e ∙ found))

    here : cond {A = ℕ} (eqb t.key key && not (eqb t.due row.due)) 1 0 ≡ 0
    here = elim (eqb t.key key) as (λ b. (eqb t.key key ≡ b) → ◌≡◌ {A = ℕ} (cond (b && not (eqb t.due row.due)) 1 0) 0) [
      | true ↦ (λ e. let at : t.key ≡ key = grind (arith, nat_tests) in let due : t.due ≡ row.due = same_due at in
          let yes_due : eqb t.due row.due ≡ true = grind (arith, nat_tests) in rw yes_due refl)
      | false ↦ (λ e. refl)
    ] refl

pub due_in_all : (spare : ℕ) (rows : Slab TimerRow) (heads : List ListHead) (lists : List (List Timer)) (key : ℕ) (row : TimerRow) → AreHeld spare rows heads lists
    → get rows key ≡ Some row → count_by (λ t. eqb t.key key && not (eqb t.due row.due)) (concat lists) ≡ 0
due_in_all spare rows heads lists key row held found = count_none (λ t. eqb t.key key && not (eqb t.due row.due)) lists
    (λ slot. due_in_thread rows None (get_or lists slot []) None key row ((held.held slot).thread) found)

-- a key of a timer has a row
pub row_of_key : (spare : ℕ) (rows : Slab TimerRow) (heads : List ListHead) (lists : List (List Timer)) (key : ℕ) → AreHeld spare rows heads lists
    → 1 ≤ keys_with key (concat lists) → ContainsKey rows key
row_of_key spare rows heads lists key held stands = by_row (get rows key) refl
  where
    by_row : (o : Option TimerRow) → get rows key ≡ o → is_some o ≡ true
    by_row None e = absurd (omega (arith, stands, absent spare rows heads lists key held e))
    by_row (Some row) e = refl

-- ---- what is known of the list of a head

pub held_at : (spare : ℕ) (rows : Slab TimerRow) (heads : List ListHead) (slot : ℕ) (head : ListHead) → AreHeld spare rows heads (lists_of rows heads)
    → slot < length heads
    → head ≡ get_or heads slot head → IsHeld rows head (list_of rows head)
held_at spare rows heads slot head held within read =
    let own = head_is spare rows heads (lists_of rows heads) slot head held within read in
    let P : List Timer → Type 0 = λ ts. IsHeld rows head ts in
    subst P (sym (held_is rows head (get_or (lists_of rows heads) slot []) own)) own

pub list_of_head : (rows : Slab TimerRow) (heads : List ListHead) (slot : ℕ) (head : ListHead) → slot < length heads → head ≡ get_or heads slot head
    → list_of rows head ≡ get_or (lists_of rows heads) slot []
list_of_head rows heads slot head within read = ap (list_of rows) read ∙ sym (list_is rows heads slot head within)

-- another timer may be remembered, if it is due first
pub remembered : (rows : Slab TimerRow) (heads : List ListHead) (slot : ℕ) (head : ListHead) (least : Option RowNumber) → AreHeld 0 rows heads (lists_of rows heads)
    → slot < length heads → head ≡ get_or heads slot head → KnowsLeast least (list_of rows head)
    → AreHeld 0 rows (set heads slot (record head { least = least })) (lists_of rows heads)
remembered rows heads slot head least held within read knows =
    let ts = get_or (lists_of rows heads) slot [] in
    let own = head_is 0 rows heads (lists_of rows heads) slot head held within read in
    let inside : slot < length (lists_of rows heads) = omega (arith, held.slots) in
    let P : List Timer → Type 0 = λ us. KnowsLeast least us in
    let now : IsHeld rows (record head { least = least }) ts = record {
      thread = own.thread;
      first = own.first;
      last = own.last;
      rising = own.rising;
      known = subst P (list_of_head rows heads slot head within read) knows;
      second = own.second;
      fits = own.fits;
    } in
    let same : set (lists_of rows heads) slot ts ≡ lists_of rows heads = set-get_or (lists_of rows heads) slot [] in
    let Q : List (List Timer) → Type 0 = λ ls. AreHeld 0 rows (set heads slot (record head { least = least })) ls in
    subst Q same (held_step 0 0 rows rows heads (lists_of rows heads) slot (record head { least = least }) ts held within now (λ key a b. refl)
    (λ key. omega (arith, held.once key, ap (λ ls. keys_with key (concat ls)) same)) (omega (arith, held.counted, ap (λ ls. length (concat ls)) same)))
