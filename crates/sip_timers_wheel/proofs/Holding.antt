-- A head and the rows of its list: what they say, and what is left when a row is put behind or taken out.
use Rattle.std.proofs.Common.{◌≡◌, ◌≢◌, ℕ, ◌+◌, ◌≤◌, ◌<◌, List, [], ◌∷◌, ◌++◌, length, Option, Some, None, is_some, option_map, cond, ltb, eqb, true, false, refl, sym}
use Rattle.std.proofs.Common.{ap, subst, ◌∙◌, arith, length-append}
use Rattle.std.specs.Prelude.{IfSome, MatchOption}
use Rattle.std.specs.Option.{option_or}
use Rattle.std.proofs.lemmas.Bool.Decides.{nat_tests}
use Rattle.slab.specs.Slab.{Slab, get, ContainsKey, Updates, slab_len}
use Rattle.sip_timers.specs.declared.timer.Timer.{Timer}
use Rattle.sip_timers.specs.Timers.{keys_with, without, KeysDiffer, AreOrdered}
use Rattle.sip_timers.proofs.Placing.{AreOrdered-without}
use Rattle.sip_timers_wheel.specs.declared.row.RowNumber.{RowNumber}
use Rattle.sip_timers_wheel.specs.declared.row.TimerRow.{TimerRow}
use Rattle.sip_timers_wheel.specs.declared.head.ListHead.{ListHead}
use Rattle.sip_timers_wheel.specs.Lists.{earlier, least}
use Rattle.sip_timers_wheel.specs.Threads.{number_of, first_or, last_or, timer_of, IsThread, list_of, KnowsLeast, all_but, all_but_least, IsHeld, NextIs, PreviousIs}
use Rattle.sip_timers_wheel.specs.Threads.{known_least, IsLeastWith, other_than, timer_at, sooner}
use Rattle.sip_timers_wheel.proofs.Threads.{keys_with-cons, keys_with-append, keys_with-more, number_is, last_or-append, last_or-stands, IsThread-append, IsThread-front}
use Rattle.sip_timers_wheel.proofs.Threads.{IsThread-back, IsThread-frame, IsThread-next, IsThread-previous, walk_is, without_swap, without_put, without_put_other}
use Rattle.sip_timers_wheel.proofs.Threads.{KeysDiffer-without, Split, split_at}
use Rattle.sip_timers_wheel.proofs.Dues.{least-put, least-without, least_is_one, least_rising, least_stands, least_stands_without, second_stands, AreOrdered-put}

pub held_is : (rows : Slab TimerRow) (head : ListHead) (ts : List Timer) → IsHeld rows head ts → list_of rows head ≡ ts
held_is rows head ts held = rw held.first (walk_is rows (slab_len rows) None ts held.thread held.fits)

-- each key of a list has a row
pub row_stands : (rows : Slab TimerRow) (before : Option RowNumber) (ts : List Timer) (after : Option RowNumber) (key : ℕ) → IsThread rows before ts after
    → 1 ≤ keys_with key ts → ContainsKey rows key
row_stands rows before [] after key p stands = absurd (omega (arith, stands))
row_stands rows before (t ∷ ts) after key p stands =
    elim (eqb t.key key) as (λ b. (eqb t.key key ≡ b) → ContainsKey rows key) [
      | true ↦ (λ e. let same : t.key ≡ key = grind (arith, nat_tests) in ap is_some (rw same at p.0))
      | false ↦ (λ e. let more : 1 ≤ keys_with key ts = grind (arith, nat_tests, keys_with-cons key t ts) in row_stands rows (Some (number_of t)) ts after key p.1 more)
    ] refl

pub last_is_one : (ts : List Timer) (key : ℕ) → last_or ts None ≡ Some (record { 0 = key }) → 1 ≤ keys_with key ts
last_is_one [] key e = absurd (cc)
last_is_one (t ∷ ts) key e = last_or-stands t ts None key e

pub first_is_one : (ts : List Timer) (key : ℕ) → first_or ts None ≡ Some (record { 0 = key }) → 1 ≤ keys_with key ts
first_is_one [] key e = absurd (cc)
first_is_one (t ∷ ts) key e =
    let same : t.key ≡ key = number_is (number_of t) (record { 0 = key }) e in
    grind (arith, nat_tests, keys_with-cons key t ts)

-- a row that is named by a number exists if that is the number of a timer of a list
pub named_stands : (rows : Slab TimerRow) (ts : List Timer) (o : Option RowNumber) → IsThread rows None ts None
    → ((key : ℕ) → o ≡ Some (record { 0 = key }) → 1 ≤ keys_with key ts) → IfSome o (λ n. ContainsKey rows n.0)
named_stands rows ts None thread stands = tt
named_stands rows ts (Some n) thread stands = row_stands rows None ts None n.0 thread (stands n.0 refl)

pub last_stands : (rows : Slab TimerRow) (head : ListHead) (ts : List Timer) → IsHeld rows head ts → IfSome head.last (λ n. ContainsKey rows n.0)
last_stands rows head ts held = named_stands rows ts head.last held.thread (λ key e. last_is_one ts key (sym held.last ∙ e))

first_is_known : (ts : List Timer) → AreOrdered ts → KnowsLeast (first_or ts None) ts
first_is_known [] h = tt
first_is_known (t ∷ ts) h = ap (λ o. option_map number_of o) (least_rising t ts h)

pub known_is : (rows : Slab TimerRow) (head : ListHead) (ts : List Timer) → IsHeld rows head ts → KnowsLeast (known_least head) ts
known_is rows head ts held =
    elim (head.is_rising) as (λ b. (head.is_rising ≡ b) → KnowsLeast (cond b head.first head.least) ts) [
      | true ↦ (λ e. rw held.first (first_is_known ts (held.rising e)))
      | false ↦ (λ e. held.known)
    ] refl

-- the timer of which the number is known
pub record Known (rows : Slab TimerRow) (ts : List Timer) (n : RowNumber) : Type 0 where
  pub timer : Timer
  pub is_least : least ts ≡ Some timer
  pub numbered : number_of timer ≡ n
  pub stands : timer_at rows n ≡ Some timer

known_of : (rows : Slab TimerRow) (ts : List Timer) (n : RowNumber) → ((u : Timer) → least ts ≡ Some u → timer_at rows (number_of u) ≡ Some u) → KnowsLeast (Some n) ts
    → Known rows ts n
known_of rows ts n stands known = by_least (least ts) refl known
  where
    by_least : (o : Option Timer) → least ts ≡ o → option_map number_of o ≡ Some n → Known rows ts n
    by_least None e k = absurd (cc)
    by_least (Some u) e k =
        let same : number_of u ≡ n = cc in
        record { timer = u; is_least = e; numbered = same; stands = subst (λ m. timer_at rows m ≡ Some u) same (stands u e) }

pub known_timer : (rows : Slab TimerRow) (ts : List Timer) (n : RowNumber) → IsThread rows None ts None → KnowsLeast (Some n) ts → Known rows ts n
known_timer rows ts n thread known = known_of rows ts n (λ u e. least_stands rows None ts None u thread e) known

found_row : (rows : Slab TimerRow) (n : RowNumber) (u : Timer) → timer_at rows n ≡ Some u → (row : TimerRow) × (get rows n.0 ≡ Some row) × (timer_of n.0 row ≡ u)
found_row rows n u e = by_row (get rows n.0) refl e
  where
    by_row : (o : Option TimerRow) → get rows n.0 ≡ o → option_map (timer_of n.0) o ≡ Some u → (row : TimerRow) × (get rows n.0 ≡ Some row) × (timer_of n.0 row ≡ u)
    by_row None f g = absurd (cc)
    by_row (Some row) f g = let same : timer_of n.0 row ≡ u = cc in (row, f, same)

row_of_known : (rows : Slab TimerRow) (ts : List Timer) (o : Option RowNumber) → ((u : Timer) → least ts ≡ Some u → timer_at rows (number_of u) ≡ Some u)
    → KnowsLeast o ts
    → IfSome o (λ n. ContainsKey rows n.0)
row_of_known rows ts None stands known = tt
row_of_known rows ts (Some n) stands known =
    let timer = known_of rows ts n stands known in
    let row = found_row rows n timer.timer timer.stands in
    ap is_some row.1

pub known_stands : (rows : Slab TimerRow) (head : ListHead) (ts : List Timer) → IsHeld rows head ts → IfSome (known_least head) (λ n. ContainsKey rows n.0)
known_stands rows head ts held = row_of_known rows ts (known_least head) (λ u e. least_stands rows None ts None u held.thread e) (known_is rows head ts held)

pub known_second_stands : (rows : Slab TimerRow) (head : ListHead) (ts : List Timer) → IsHeld rows head ts → IfSome head.second (λ n. ContainsKey rows n.0)
known_second_stands rows head ts held = row_of_known rows (all_but_least ts) head.second (λ u e. second_stands rows ts u held.thread e) held.second

-- ---- a row is put behind the others

-- the timers keep their rows, and the last one names the new row
thread_put : (old mid new : Slab TimerRow) (ts : List Timer) (key : ℕ) (row : TimerRow) → IsThread old None ts None → KeysDiffer ts → keys_with key ts ≡ 0
    → Updates old mid key (Some (record row { previous = last_or ts None; next = None })) → NextIs mid new (last_or ts None) (Some (record { 0 = key }))
    → IsThread new None (ts ++ timer_of key row ∷ []) None
thread_put old mid new ts key row thread differ fresh put tied =
    let kept : IsThread mid None ts None = IsThread-frame old mid None ts None (λ k stands. put.others k (λ e. omega (arith, stands, rw e at stands))) thread in
    let front : IsThread new None ts (Some (record { 0 = key })) =
    IsThread-next mid new None ts None (Some (record { 0 = key })) differ
    (λ k r stands last found. tied.changed (record { 0 = k }) r last found)
    (λ k stands other. tied.others k other)
    kept in
    let other : last_or ts None ≢ Some (record { 0 = key }) = λ e. omega (arith, last_is_one ts key e) in
    IsThread-append new None ts (timer_of key row ∷ []) None front (tied.others key other ∙ put.changed, tt)

first_put : (ts : List Timer) (t : Timer) → option_or (first_or ts None) (Some (number_of t)) ≡ first_or (ts ++ t ∷ []) None
first_put [] t = refl
first_put (u ∷ ts) t = refl

known_put_two : (u t : Timer) → option_map number_of (Some (earlier u (Some t))) ≡ Some (cond (ltb t.due u.due) (number_of t) (number_of u))
known_put_two u t = elim (ltb t.due u.due) as (λ b. option_map number_of (Some (cond b t u)) ≡ Some (cond b (number_of t) (number_of u))) [
  | true ↦ refl
  | false ↦ refl
]

known_put : (rows : Slab TimerRow) (ts : List Timer) (key : ℕ) (row : TimerRow) (known next : Option RowNumber)
    → ((u : Timer) → least ts ≡ Some u → timer_at rows (number_of u) ≡ Some u) → KnowsLeast known ts → IsLeastWith rows known (record { 0 = key }) row.due next
    → KnowsLeast next (ts ++ timer_of key row ∷ [])
known_put rows ts key row None next stands known chosen = rw chosen tt
known_put rows ts key row (Some n) next stands known chosen =
    let timer = known_of rows ts n stands known in
    let found = found_row rows n timer.timer timer.stands in
    let same : (found.0).due ≡ (timer.timer).due = ap (λ t. t.due) found.2 in
    let whole : least (ts ++ timer_of key row ∷ []) ≡ Some (earlier timer.timer (Some (timer_of key row))) = least-put ts (timer_of key row)
    ∙ ap (λ o. sooner o (Some (timer_of key row))) timer.is_least in
    let numbers : option_map number_of (least (ts ++ timer_of key row ∷ [])) ≡ Some (cond (ltb row.due (timer.timer).due) (record { 0 = key }) (number_of timer.timer)) =
    ap (λ o. option_map number_of o) whole ∙ known_put_two timer.timer (timer_of key row) in
    let next_is : next ≡ Some (cond (ltb row.due (timer.timer).due) (record { 0 = key }) (number_of timer.timer)) = chosen found.0 found.1
    ∙ ap (λ d. Some (cond (ltb row.due d) (record { 0 = key }) n)) same ∙ ap (λ m. Some (cond (ltb row.due (timer.timer).due) (record { 0 = key }) m))
    (sym timer.numbered) in
    rw next_is numbers

-- the one that was due first is the second when a timer is put behind that is due before it
second_put_sooner : (ts : List Timer) (t : Timer) (n : RowNumber) (next : Option RowNumber) → keys_with t.key ts ≡ 0 → KnowsLeast (Some n) ts → next ≡ Some n
    → KnowsLeast next (without t.key (ts ++ t ∷ []))
second_put_sooner ts t n next fresh known chosen =
    let P : Option RowNumber → Type 0 = λ o. KnowsLeast o ts in
    let Q : List Timer → Type 0 = λ us. KnowsLeast next us in
    subst Q (sym (without_put ts t fresh)) (subst P (sym chosen) known)

-- a timer that is put behind and is due later may be the second
second_put_later : (rows : Slab TimerRow) (ts : List Timer) (u : Timer) (key : ℕ) (row : TimerRow) (second next : Option RowNumber) → IsThread rows None ts None
    → key ≢ u.key
    → KnowsLeast second (without u.key ts) → IsLeastWith rows second (record { 0 = key }) row.due next → KnowsLeast next (without u.key (ts ++ timer_of key row ∷ []))
second_put_later rows ts u key row second next thread other known chosen =
    let Q : List Timer → Type 0 = λ us. KnowsLeast next us in
    subst Q (sym (without_put_other u.key ts (timer_of key row) other))
    (known_put rows (without u.key ts) key row second next (λ v e. least_stands_without rows None ts None u.key v thread e) known chosen)

second_put : (rows : Slab TimerRow) (ts : List Timer) (key : ℕ) (row : TimerRow) (known second next : Option RowNumber) → IsThread rows None ts None
    → keys_with key ts ≡ 0
    → KnowsLeast known ts → KnowsLeast second (all_but_least ts) → (known ≡ None → next ≡ None)
    → ((n : RowNumber) (r : TimerRow) → known ≡ Some n → get rows n.0 ≡ Some r → row.due < r.due → next ≡ Some n)
    → ((n : RowNumber) (r : TimerRow) → known ≡ Some n → get rows n.0 ≡ Some r → r.due ≤ row.due → IsLeastWith rows second (record { 0 = key }) row.due next)
    → KnowsLeast next (all_but_least (ts ++ timer_of key row ∷ []))
second_put rows ts key row None second next thread fresh known after unknown sooner_is later_is = rw (unknown refl) tt
second_put rows ts key row (Some n) second next thread fresh known after unknown sooner_is later_is =
    let timer = known_timer rows ts n thread known in
    let u = timer.timer in
    let t = timer_of key row in
    let found = found_row rows n u timer.stands in
    let same : (found.0).due ≡ u.due = ap (λ v. v.due) found.2 in
    let whole : least (ts ++ t ∷ []) ≡ Some (cond (ltb t.due u.due) t u) = least-put ts t ∙ ap (λ o. sooner o (Some t)) timer.is_least in
    let other : key ≢ u.key = λ e. omega (arith, least_is_one ts u timer.is_least, rw e at fresh) in
    let P : Option Timer → Type 0 = λ o. KnowsLeast next (all_but o (ts ++ t ∷ [])) in
    let Q : Option Timer → Type 0 = λ o. KnowsLeast second (all_but o ts) in
    subst P (sym whole)
    (elim (ltb t.due u.due) as (λ b. (ltb t.due u.due ≡ b) → P (Some (cond b t u))) [
      | true ↦ (λ e. second_put_sooner ts t n next fresh known (sooner_is n found.0 refl found.1 (grind (arith, nat_tests))))
      | false ↦ (λ e. second_put_later rows ts u key row second next thread other (subst Q timer.is_least after)
          (later_is n found.0 refl found.1 (grind (arith, nat_tests))))
    ] refl)

last_is_some : (t : Timer) (ts : List Timer) (before : Option RowNumber) → (n : RowNumber) × (last_or (t ∷ ts) before ≡ Some n)
last_is_some t [] before = (number_of t, refl)
last_is_some t (u ∷ us) before = last_is_some u us (Some (number_of t))

ordered_before : (rows : Slab TimerRow) (head : ListHead) (ts : List Timer) → IsHeld rows head ts → ((n : RowNumber) → head.last ≡ Some n → head.is_rising ≡ true)
    → AreOrdered ts
ordered_before rows head [] held rising = tt
ordered_before rows head (t ∷ ts) held rising = let last = last_is_some t ts None in held.rising (rising last.0 (held.last ∙ last.1))

pub held_put : (old mid new : Slab TimerRow) (head next : ListHead) (ts : List Timer) (key : ℕ) (row : TimerRow) → IsHeld old head ts → KeysDiffer ts
    → keys_with key ts ≡ 0
    → length ts + 1 ≤ slab_len new → Updates old mid key (Some (record row { previous = head.last; next = None })) → NextIs mid new head.last (Some (record { 0 = key }))
    → next.first ≡ option_or head.first (Some (record { 0 = key })) → next.last ≡ Some (record { 0 = key })
    → (next.is_rising ≡ true → (n : RowNumber) → head.last ≡ Some n → head.is_rising ≡ true)
    → (next.is_rising ≡ true → (n : RowNumber) (r : TimerRow) → head.last ≡ Some n → get old n.0 ≡ Some r → r.due ≤ row.due)
    → IsLeastWith old (known_least head) (record { 0 = key }) row.due next.least → (known_least head ≡ None → next.second ≡ None)
    → ((n : RowNumber) (r : TimerRow) → known_least head ≡ Some n → get old n.0 ≡ Some r → row.due < r.due → next.second ≡ Some n)
    → ((n : RowNumber) (r : TimerRow) → known_least head ≡ Some n → get old n.0 ≡ Some r → r.due ≤ row.due
    → IsLeastWith old head.second (record { 0 = key }) row.due next.second) → IsHeld new next (ts ++ timer_of key row ∷ [])
held_put old mid new head next ts key row held differ fresh fits put tied first last was_rising late chosen unknown sooner_is later_is =
    let updates : Updates old mid key (Some (record row { previous = last_or ts None; next = None })) = rw held.last at put in
    let ties : NextIs mid new (last_or ts None) (Some (record { 0 = key })) = rw held.last at tied in
    record {
      thread = thread_put old mid new ts key row held.thread differ fresh updates ties;
      first = first ∙ rw held.first (first_put ts (timer_of key row));
      last = last ∙ sym (last_or-append ts (timer_of key row ∷ []) None);
      rising = λ e. AreOrdered-put old None ts None (timer_of key row) held.thread (ordered_before old head ts held (was_rising e))
          (λ k r stands at found. late e (record { 0 = k }) r (held.last ∙ at) found);
      known = known_put old ts key row (known_least head) next.least (λ u e. least_stands old None ts None u held.thread e) (known_is old head ts held) chosen;
      second = second_put old ts key row (known_least head) head.second next.second held.thread fresh (known_is old head ts held) held.second unknown sooner_is later_is;
      fits = omega (arith, length-append ts (timer_of key row ∷ []));
    }

-- ---- a row is taken out

-- what stands in front of a timer, or behind it, has other keys
pub keys_apart : (front back : List Timer) (t : Timer) (key : ℕ) → KeysDiffer (front ++ t ∷ back) → keys_with key front + keys_with key back ≤ 1
keys_apart front back t key differ = omega (arith, differ key, keys_with-append key front (t ∷ back), keys_with-more key t back)

thread_taken : (old mid new : Slab TimerRow) (front back : List Timer) (t : Timer) → IsThread old None (front ++ t ∷ back) None → KeysDiffer (front ++ t ∷ back)
    → NextIs old mid (last_or front None) (first_or back None) → PreviousIs mid new (first_or back None) (last_or front None) → IsThread new None (front ++ back) None
thread_taken old mid new front back t thread differ forth back_tied =
    let before = IsThread-front old None front (t ∷ back) None thread in
    let behind = IsThread-back old None front (t ∷ back) None thread in
    let front_differs : KeysDiffer front = λ k. omega (arith, keys_apart front back t k differ) in
    let back_differs : KeysDiffer back = λ k. omega (arith, keys_apart front back t k differ) in
    let front_mid : IsThread mid None front (first_or back None) =
    IsThread-next old mid None front (Some (number_of t)) (first_or back None) front_differs
    (λ k r stands last found. forth.changed (record { 0 = k }) r last found)
    (λ k stands other. forth.others k other)
    before in
    let front_new : IsThread new None front (first_or back None) =
    IsThread-frame mid new None front (first_or back None)
    (λ k stands. back_tied.others k (λ e. omega (arith, stands, keys_apart front back t k differ, first_is_one back k e)))
    front_mid in
    let back_mid : IsThread mid (Some (number_of t)) back None =
    IsThread-frame old mid (Some (number_of t)) back None
    (λ k stands. forth.others k (λ e. omega (arith, stands, keys_apart front back t k differ, last_is_one front k e)))
    behind.1 in
    let back_new : IsThread new (last_or front None) back None =
    IsThread-previous mid new (Some (number_of t)) (last_or front None) back None back_differs
    (λ k r first found. back_tied.changed (record { 0 = k }) r first found)
    (λ k stands other. back_tied.others k other)
    back_mid in
    IsThread-append new None front back None front_new back_new

last_of_some : (t : Timer) (ts : List Timer) (before : Option RowNumber) → is_some (last_or (t ∷ ts) before) ≡ true
last_of_some t [] before = refl
last_of_some t (u ∷ us) before = last_of_some u us (Some (number_of t))

first_taken : (front back : List Timer) (t : Timer) → cond (is_some (last_or front None)) (first_or (front ++ t ∷ back) None) (first_or back None)
    ≡ first_or (front ++ back) None
first_taken [] back t = refl
first_taken (u ∷ us) back t = ap (λ b. cond b (Some (number_of u)) (first_or back None)) (last_of_some u us None)

last_taken : (front back : List Timer) (t : Timer) → cond (is_some (first_or back None)) (last_or (front ++ t ∷ back) None) (last_or front None)
    ≡ last_or (front ++ back) None
last_taken front [] t = sym (last_or-append front [] None)
last_taken front (u ∷ us) t = last_or-append front (t ∷ u ∷ us) None ∙ sym (last_or-append front (u ∷ us) None)

-- the timer that is due first, by its number
record Named (ts : List Timer) (n : RowNumber) : Type 0 where
  pub timer : Timer
  pub is_least : least ts ≡ Some timer
  pub keyed : timer.key ≡ n.0

named_least : (ts : List Timer) (n : RowNumber) → KnowsLeast (Some n) ts → Named ts n
named_least ts n known = by_least (least ts) refl known
  where
    by_least : (o : Option Timer) → least ts ≡ o → option_map number_of o ≡ Some n → Named ts n
    by_least None e k = absurd (cc)
    by_least (Some u) e k = record { timer = u; is_least = e; keyed = number_is (number_of u) n k }

-- the same one is due first when another key is taken out
same_least : (ts : List Timer) (key : ℕ) (n : RowNumber) → KeysDiffer ts → eqb n.0 key ≡ false → (known : KnowsLeast (Some n) ts)
    → least (without key ts) ≡ Some ((named_least ts n known).timer)
same_least ts key n differ e known =
    let named = named_least ts n known in
    least-without key ts named.timer differ (λ f. let same : n.0 ≡ key = sym named.keyed ∙ f in grind (arith, nat_tests)) named.is_least

known_left : (ts : List Timer) (key : ℕ) (n : RowNumber) → KeysDiffer ts → eqb n.0 key ≡ false → KnowsLeast (Some n) ts → KnowsLeast (Some n) (without key ts)
known_left ts key n differ e known = ap (λ o. option_map number_of o) (same_least ts key n differ e known ∙ sym (named_least ts n known).is_least) ∙ known

other_left : (ts : List Timer) (key : ℕ) (known : Option RowNumber) → KeysDiffer ts → KnowsLeast known ts → KnowsLeast (other_than key known) (without key ts)
other_left ts key None differ known = tt
other_left ts key (Some n) differ known =
    elim (eqb n.0 key) as (λ b. (eqb n.0 key ≡ b) → KnowsLeast (cond b None (Some n)) (without key ts)) [
      | true ↦ (λ e. tt)
      | false ↦ (λ e. known_left ts key n differ e known)
    ] refl

-- the second one is due first when the one before it is taken out
second_left : (ts : List Timer) (key : ℕ) (n : RowNumber) (second : Option RowNumber) → eqb n.0 key ≡ true → KnowsLeast (Some n) ts → KnowsLeast second (all_but_least ts)
    → KnowsLeast second (without key ts)
second_left ts key n second e known after =
    let named = named_least ts n known in
    let same : named.timer.key ≡ key = grind (arith, nat_tests, named.keyed) in
    let P : List Timer → Type 0 = λ us. KnowsLeast second us in
    subst P (ap (λ o. all_but o ts) named.is_least ∙ ap (λ k. without k ts) same) after

-- the second one stays the second when neither it nor the one before it is taken out
second_stays : (ts : List Timer) (key : ℕ) (n : RowNumber) (second : Option RowNumber) → KeysDiffer ts → eqb n.0 key ≡ false → KnowsLeast (Some n) ts
    → KnowsLeast second (all_but_least ts) → KnowsLeast (other_than key second) (all_but_least (without key ts))
second_stays ts key n second differ e known after =
    let named = named_least ts n known in
    let k = named.timer.key in
    let P : List Timer → Type 0 = λ us. KnowsLeast second us in
    let Q : List Timer → Type 0 = λ us. KnowsLeast (other_than key second) us in
    subst Q (without_swap key k ts ∙ sym (ap (λ o. all_but o (without key ts)) (same_least ts key n differ e known)))
    (other_left (without k ts) key second (KeysDiffer-without k ts differ) (subst P (ap (λ o. all_but o ts) named.is_least) after))

known_taken : (ts : List Timer) (key : ℕ) (known second next : Option RowNumber) → KeysDiffer ts → KnowsLeast known ts → KnowsLeast second (all_but_least ts)
    → MatchOption known (next ≡ None) (λ n. next ≡ cond (eqb n.0 key) second known) → KnowsLeast next (without key ts)
known_taken ts key None second next differ known after chosen = rw chosen tt
known_taken ts key (Some n) second next differ known after chosen =
    rw chosen
    (elim (eqb n.0 key) as (λ b. (eqb n.0 key ≡ b) → KnowsLeast (cond b second (Some n)) (without key ts)) [
      | true ↦ (λ e. second_left ts key n second e known after)
      | false ↦ (λ e. known_left ts key n differ e known)
    ] refl)

second_taken : (ts : List Timer) (key : ℕ) (known second next : Option RowNumber) → KeysDiffer ts → KnowsLeast known ts → KnowsLeast second (all_but_least ts)
    → MatchOption known (next ≡ None) (λ n. next ≡ cond (eqb n.0 key) None (other_than key second)) → KnowsLeast next (all_but_least (without key ts))
second_taken ts key None second next differ known after chosen = rw chosen tt
second_taken ts key (Some n) second next differ known after chosen =
    rw chosen
    (elim (eqb n.0 key) as (λ b. (eqb n.0 key ≡ b) → KnowsLeast (cond b None (other_than key second)) (all_but_least (without key ts))) [
      | true ↦ (λ e. tt)
      | false ↦ (λ e. second_stays ts key n second differ e known after)
    ] refl)

pub same_row : (r s : TimerRow) → Some r ≡ Some s → r ≡ s
same_row r s e = cc

-- what the row of a timer says of those beside it
pub record Beside (rows : Slab TimerRow) (front back : List Timer) (row : TimerRow) : Type 0 where
  pub previous : row.previous ≡ last_or front None
  pub next : row.next ≡ first_or back None

pub beside_is : (rows : Slab TimerRow) (ts : List Timer) (key : ℕ) (row : TimerRow) (split : Split key ts) → IsThread rows None ts None → get rows key ≡ Some row
    → Beside rows split.front split.back row
beside_is rows ts key row split thread found =
    let whole : IsThread rows None (split.front ++ split.timer ∷ split.back) None = let P : List Timer → Type 0 = λ us. IsThread rows None us None in
    subst P split.whole thread in
    let here = (IsThread-back rows None split.front (split.timer ∷ split.back) None whole).0 in
    let same = same_row row _ (sym found ∙ ap (get rows) (sym split.keyed) ∙ here) in
    record { previous = ap (λ r. r.previous) same; next = ap (λ r. r.next) same }

held_without : (old mid new : Slab TimerRow) (head next : ListHead) (front back : List Timer) (t : Timer) (row : TimerRow) → IsHeld old head (front ++ t ∷ back)
    → KeysDiffer (front ++ t ∷ back) → Beside old front back row → NextIs old mid row.previous row.next → PreviousIs mid new row.next row.previous
    → slab_len new ≡ slab_len old → next.first ≡ cond (is_some row.previous) head.first row.next → next.last ≡ cond (is_some row.next) head.last row.previous
    → (next.is_rising ≡ true → AreOrdered (front ++ back)) → KnowsLeast next.least (front ++ back) → KnowsLeast next.second (all_but_least (front ++ back))
    → IsHeld new next (front ++ back)
held_without old mid new head next front back t row held differ beside forth back_tied len first last rising known second =
    let ties : NextIs old mid (last_or front None) (first_or back None) = rw (beside.previous, beside.next) at forth in
    let ties_back : PreviousIs mid new (first_or back None) (last_or front None) = rw (beside.previous, beside.next) at back_tied in
    record {
      thread = thread_taken old mid new front back t held.thread differ ties ties_back;
      first = first ∙ rw (beside.previous, beside.next, held.first) (first_taken front back t);
      last = last ∙ rw (beside.previous, beside.next, held.last) (last_taken front back t);
      rising = rising;
      known = known;
      second = second;
      fits = omega (arith, held.fits, length-append front (t ∷ back), length-append front back);
    }

pub held_taken : (old mid new : Slab TimerRow) (head next : ListHead) (ts : List Timer) (key : ℕ) (row : TimerRow) → IsHeld old head ts → KeysDiffer ts
    → 1 ≤ keys_with key ts
    → get old key ≡ Some row → NextIs old mid row.previous row.next → PreviousIs mid new row.next row.previous → slab_len new ≡ slab_len old
    → next.first ≡ cond (is_some row.previous) head.first row.next → next.last ≡ cond (is_some row.next) head.last row.previous → next.is_rising ≡ head.is_rising
    → MatchOption head.least (next.least ≡ None) (λ n. next.least ≡ cond (eqb n.0 key) head.second head.least)
    → MatchOption head.least (next.second ≡ None) (λ n. next.second ≡ cond (eqb n.0 key) None (other_than key head.second)) → IsHeld new next (without key ts)
held_taken old mid new head next ts key row held differ stands found forth back_tied len first last rising least_is second_is =
    let split = split_at key ts differ stands in
    let beside = beside_is old ts key row split held.thread found in
    let P : List Timer → Type 0 = λ us. IsHeld old head us in
    let Q : List Timer → Type 0 = λ us. KeysDiffer us in
    let R : List Timer → Type 0 = λ us. IsHeld new next us in
    let O : List Timer → Type 0 = λ us. AreOrdered us in
    let L : List Timer → Type 0 = λ us. KnowsLeast next.least us in
    let S : List Timer → Type 0 = λ us. KnowsLeast next.second (all_but_least us) in
    subst R (sym split.rest)
    (held_without old mid new head next split.front split.back split.timer row (subst P split.whole held) (subst Q split.whole differ) beside forth back_tied len first
    last
    (λ e. subst O split.rest (AreOrdered-without key ts (held.rising (sym rising ∙ e))))
    (subst L split.rest (known_taken ts key head.least head.second next.least differ held.known held.second least_is))
    (subst S split.rest (second_taken ts key head.least head.second next.second differ held.known held.second second_is)))

-- the rows of other timers stay, and that of the one that is taken out
pub others_taken : (old mid new : Slab TimerRow) (ts : List Timer) (key : ℕ) (row : TimerRow) → IsThread old None ts None → KeysDiffer ts → 1 ≤ keys_with key ts
    → get old key ≡ Some row → NextIs old mid row.previous row.next → PreviousIs mid new row.next row.previous → (other : ℕ) → keys_with other (without key ts) ≡ 0
    → get new other ≡ get old other
others_taken old mid new ts key row thread differ stands found forth back_tied other none =
    let split = split_at key ts differ stands in
    let beside = beside_is old ts key row split thread found in
    let apart : keys_with other (split.front) + keys_with other (split.back) ≡ 0 = sym (keys_with-append other split.front split.back)
    ∙ sym (ap (keys_with other) split.rest) ∙ none in
    back_tied.others other (λ e. omega (arith, apart, first_is_one split.back other (sym beside.next ∙ e)))
    ∙ forth.others other (λ e. omega (arith, apart, last_is_one split.front other (sym beside.previous ∙ e)))

-- those that stand beside a timer have rows
pub previous_stands : (rows : Slab TimerRow) (ts : List Timer) (key : ℕ) (row : TimerRow) → IsThread rows None ts None → KeysDiffer ts → 1 ≤ keys_with key ts
    → get rows key ≡ Some row → IfSome row.previous (λ n. ContainsKey rows n.0)
previous_stands rows ts key row thread differ stands found =
    let split = split_at key ts differ stands in
    let beside = beside_is rows ts key row split thread found in
    named_stands rows ts row.previous thread
    (λ k e. omega (arith, last_is_one split.front k (sym beside.previous ∙ e), ap (keys_with k) split.whole, keys_with-append k split.front (split.timer ∷ split.back)))

pub next_stands : (rows : Slab TimerRow) (ts : List Timer) (key : ℕ) (row : TimerRow) → IsThread rows None ts None → KeysDiffer ts → 1 ≤ keys_with key ts
    → get rows key ≡ Some row
    → IfSome row.next (λ n. ContainsKey rows n.0)
next_stands rows ts key row thread differ stands found =
    let split = split_at key ts differ stands in
    let beside = beside_is rows ts key row split thread found in
    named_stands rows ts row.next thread
    (λ k e. omega (
      arith,
      first_is_one split.back k (sym beside.next ∙ e),
      ap (keys_with k) split.whole,
      keys_with-append k split.front (split.timer ∷ split.back),
      keys_with-more k split.timer split.back,
    ))

pub row_at : (rows : Slab TimerRow) (key : ℕ) → ContainsKey rows key → (row : TimerRow) × (get rows key ≡ Some row)
row_at rows key stands = by_row (get rows key) refl stands
  where
    by_row : (o : Option TimerRow) → get rows key ≡ o → is_some o ≡ true → (row : TimerRow) × (get rows key ≡ Some row)
    by_row None e some = absurd (cc)
    by_row (Some row) e some = (row, e)

-- a row that stands still stands when another one names another next row
pub NextIs-stands : (old new : Slab TimerRow) (at next : Option RowNumber) (key : ℕ) → NextIs old new at next → ContainsKey old key → ContainsKey new key
NextIs-stands old new None next key forth stands = ap is_some (forth.others key (λ e. cc)) ∙ stands
NextIs-stands old new (Some n) next key forth stands =
    elim (eqb n.0 key) as (λ b. (eqb n.0 key ≡ b) → ContainsKey new key) [
      | true ↦ (λ e. let same : n.0 ≡ key = grind (arith, nat_tests) in
          let row = row_at old key stands in
          let P : ℕ → Type 0 = λ k. get old k ≡ Some row.0 → ContainsKey new k in
          subst P same (λ found. ap is_some (forth.changed n row.0 refl found)) row.1)
      | false ↦ (λ e. ap is_some (forth.others key (λ f. let same : n.0 ≡ key = number_is n (record { 0 = key }) f in grind (arith, nat_tests))) ∙ stands)
    ] refl

-- the last row of a list still stands when one that isn't of the list is written
pub last_stands_beside : (old mid : Slab TimerRow) (head : ListHead) (ts : List Timer) (key : ℕ) (slot : Option TimerRow) → IsHeld old head ts → keys_with key ts ≡ 0
    → Updates old mid key slot → IfSome head.last (λ n. ContainsKey mid n.0)
last_stands_beside old mid head ts key slot held fresh put =
    let kept : IsThread mid None ts None = IsThread-frame old mid None ts None (λ k stands. put.others k (λ e. omega (arith, stands, rw e at stands))) held.thread in
    named_stands mid ts head.last kept (λ k e. last_is_one ts k (sym held.last ∙ e))

-- the rows of the other lists stay when a row is put behind the others of one
pub others_put : (old mid new : Slab TimerRow) (head : ListHead) (ts : List Timer) (key : ℕ) (slot : Option TimerRow) (next : Option RowNumber) → IsHeld old head ts
    → Updates old mid key slot → NextIs mid new head.last next → (other : ℕ) → keys_with other ts ≡ 0 → other ≢ key → get new other ≡ get old other
others_put old mid new head ts key slot next held put tied other none differs =
    tied.others other (λ e. omega (arith, last_is_one ts other (sym held.last ∙ e))) ∙ put.others other differs

-- the row behind one still stands when the one in front of it is tied to it
pub next_still_stands : (old mid : Slab TimerRow) (ts : List Timer) (key : ℕ) (row : TimerRow) → IsThread old None ts None → KeysDiffer ts → 1 ≤ keys_with key ts
    → get old key ≡ Some row → NextIs old mid row.previous row.next → IfSome row.next (λ n. ContainsKey mid n.0)
next_still_stands old mid ts key row thread differ stands found forth =
    by_next row.next (next_stands old ts key row thread differ stands found)
  where
    by_next : (o : Option RowNumber) → IfSome o (λ n. ContainsKey old n.0) → IfSome o (λ n. ContainsKey mid n.0)
    by_next None stands = tt
    by_next (Some n) stands = NextIs-stands old mid row.previous row.next n.0 forth stands

pub held_of_row : (rows : Slab TimerRow) (head : ListHead) (ts : List Timer) (key : ℕ) (r s : TimerRow) → r ≡ s → IsHeld rows head (ts ++ timer_of key r ∷ [])
    → IsHeld rows head (ts ++ timer_of key s ∷ [])
held_of_row rows head ts key r s same held = rw same at held

-- the timer whose number is known is the one that is due first
pub known_answer : (rows : Slab TimerRow) (head : ListHead) (ts : List Timer) (n : RowNumber) (t : Timer) → IsHeld rows head ts → known_least head ≡ Some n
    → timer_at rows n ≡ Some t → Some t ≡ least ts
known_answer rows head ts n t held is found =
    let P : Option RowNumber → Type 0 = λ o. KnowsLeast o ts in
    let timer = known_timer rows ts n held.thread (subst P is (known_is rows head ts held)) in
    sym found ∙ timer.stands ∙ sym timer.is_least

pub known_row : (rows : Slab TimerRow) (head : ListHead) (ts : List Timer) (n : RowNumber) → IsHeld rows head ts → known_least head ≡ Some n → ContainsKey rows n.0
known_row rows head ts n held is =
    let P : Option RowNumber → Type 0 = λ o. IfSome o (λ m. ContainsKey rows m.0) in subst P is (known_stands rows head ts held)
