-- Lists that are threaded through rows: cut, joined, and with other rows written.
use Rattle.std.proofs.Common.{◌≡◌, ◌≢◌, ℕ, zero, suc, ◌+◌, ◌≤◌, List, [], ◌∷◌, ◌++◌, length, append-nil, Option, Some, None, Bool, cond, eqb, true, false, refl, sym, ap}
use Rattle.std.proofs.Common.{◌∙◌, arith}
use Rattle.std.specs.Prelude.{not, ◌&&◌}
use Rattle.std.proofs.lemmas.Bool.Decides.{nat_tests}
use Rattle.std.proofs.lemmas.List.Elements.{filter-append}
use Rattle.std.proofs.lemmas.List.Sums.{sum_by-cons, sum_by-append}
use Rattle.slab.specs.Slab.{Slab, get}
use Rattle.sip_timers.specs.declared.timer.Timer.{Timer}
use Rattle.sip_timers.specs.Timers.{keys_with, without, KeysDiffer}
use Rattle.sip_timers.proofs.Counting.{count_le}
use Rattle.sip_timers.proofs.Placing.{count-without}
use Rattle.sip_timers_wheel.specs.declared.row.RowNumber.{RowNumber}
use Rattle.sip_timers_wheel.specs.declared.row.TimerRow.{TimerRow}
use Rattle.sip_timers_wheel.specs.Threads.{number_of, first_or, last_or, row_of, IsThread, walk}

pub keys_with-cons : (key : ℕ) (t : Timer) (ts : List Timer) → keys_with key (t ∷ ts) ≡ cond (eqb t.key key) 1 0 + keys_with key ts
keys_with-cons key t ts = sum_by-cons (λ t. cond (eqb t.key key) 1 0) t ts

pub keys_with-append : (key : ℕ) (xs ys : List Timer) → keys_with key (xs ++ ys) ≡ keys_with key xs + keys_with key ys
keys_with-append key xs ys = sum_by-append (λ t. cond (eqb t.key key) 1 0) xs ys

pub keys_with-here : (t : Timer) (ts : List Timer) → 1 ≤ keys_with t.key (t ∷ ts)
keys_with-here t ts = grind (arith, nat_tests, keys_with-cons t.key t ts)

pub keys_with-more : (key : ℕ) (t : Timer) (ts : List Timer) → keys_with key ts ≤ keys_with key (t ∷ ts)
keys_with-more key t ts = omega (arith, keys_with-cons key t ts)

-- the key of the first timer is that of no other one
pub key_is_once : (t : Timer) (ts : List Timer) → KeysDiffer (t ∷ ts) → keys_with t.key ts ≡ 0
key_is_once t ts differ = let once = differ t.key in grind (arith, nat_tests, keys_with-cons t.key t ts)

pub KeysDiffer-rest : (t : Timer) (ts : List Timer) → KeysDiffer (t ∷ ts) → KeysDiffer ts
KeysDiffer-rest t ts differ = λ key. omega (arith, differ key, keys_with-more key t ts)

pub first_or-append : (xs ys : List Timer) (after : Option RowNumber) → first_or (xs ++ ys) after ≡ first_or xs (first_or ys after)
first_or-append [] ys after = refl
first_or-append (t ∷ xs) ys after = refl

pub last_or-append : (xs ys : List Timer) (before : Option RowNumber) → last_or (xs ++ ys) before ≡ last_or ys (last_or xs before)
last_or-append [] ys before = refl
last_or-append (t ∷ xs) ys before = last_or-append xs ys (Some (number_of t))

abbrev key_or_zero : Option RowNumber → ℕ
key_or_zero None = 0
key_or_zero (Some number) = number.0

-- two timers of one number have one key
pub number_is : (n m : RowNumber) → Some n ≡ Some m → n.0 ≡ m.0
number_is n m e = ap key_or_zero e

-- the last timer of some stands among them
pub last_or-stands : (t : Timer) (ts : List Timer) (before : Option RowNumber) (key : ℕ) → last_or (t ∷ ts) before ≡ Some (record { 0 = key })
    → 1 ≤ keys_with key (t ∷ ts)
last_or-stands t [] before key e =
    let same : t.key ≡ key = number_is (number_of t) (record { 0 = key }) e in
    grind (arith, nat_tests, keys_with-cons key t [])
last_or-stands t (u ∷ us) before key e = omega (arith, keys_with-more key t (u ∷ us), last_or-stands u us (Some (number_of t)) key e)

pub IsThread-append : (rows : Slab TimerRow) (before : Option RowNumber) (xs ys : List Timer) (after : Option RowNumber) → IsThread rows before xs (first_or ys after)
    → IsThread rows (last_or xs before) ys after → IsThread rows before (xs ++ ys) after
IsThread-append rows before [] ys after p q = q
IsThread-append rows before (t ∷ xs) ys after p q = (
  p.0 ∙ ap (λ next. Some (row_of before t next)) (sym (first_or-append xs ys after)),
  IsThread-append rows (Some (number_of t)) xs ys after p.1 q,
)

pub IsThread-front : (rows : Slab TimerRow) (before : Option RowNumber) (xs ys : List Timer) (after : Option RowNumber) → IsThread rows before (xs ++ ys) after
    → IsThread rows before xs (first_or ys after)
IsThread-front rows before [] ys after p = tt
IsThread-front rows before (t ∷ xs) ys after p = (
  p.0 ∙ ap (λ next. Some (row_of before t next)) (first_or-append xs ys after),
  IsThread-front rows (Some (number_of t)) xs ys after p.1,
)

pub IsThread-back : (rows : Slab TimerRow) (before : Option RowNumber) (xs ys : List Timer) (after : Option RowNumber) → IsThread rows before (xs ++ ys) after
    → IsThread rows (last_or xs before) ys after
IsThread-back rows before [] ys after p = p
IsThread-back rows before (t ∷ xs) ys after p = IsThread-back rows (Some (number_of t)) xs ys after p.1

-- rows that belong to no timer of a list may change
pub IsThread-frame : (old new : Slab TimerRow) (before : Option RowNumber) (ts : List Timer) (after : Option RowNumber)
    → ((key : ℕ) → 1 ≤ keys_with key ts → get new key ≡ get old key) → IsThread old before ts after → IsThread new before ts after
IsThread-frame old new before [] after keeps p = tt
IsThread-frame old new before (t ∷ ts) after keeps p = (
  keeps t.key (keys_with-here t ts) ∙ p.0,
  IsThread-frame old new (Some (number_of t)) ts after (λ key h. keeps key (omega (arith, keys_with-more key t ts))) p.1,
)

-- another row may stand behind the last one
pub IsThread-next : (old new : Slab TimerRow) (before : Option RowNumber) (ts : List Timer) (after next : Option RowNumber) → KeysDiffer ts
    → ((key : ℕ) (row : TimerRow) → 1 ≤ keys_with key ts → last_or ts before ≡ Some (record { 0 = key }) → get old key ≡ Some row
    → get new key ≡ Some (record row { next = next })) → ((key : ℕ) → 1 ≤ keys_with key ts → last_or ts before ≢ Some (record { 0 = key }) → get new key ≡ get old key)
    → IsThread old before ts after → IsThread new before ts next
IsThread-next old new before [] after next differ changed others p = tt
IsThread-next old new before (t ∷ []) after next differ changed others p = (changed t.key _ (keys_with-here t []) refl p.0, tt)
IsThread-next old new before (t ∷ u ∷ us) after next differ changed others p =
    let other : last_or (u ∷ us) (Some (number_of t)) ≢ Some (number_of t) = λ e. omega
    (arith, key_is_once t (u ∷ us) differ, last_or-stands u us (Some (number_of t)) t.key e) in (
      others t.key (keys_with-here t (u ∷ us)) other ∙ p.0,
      IsThread-next old new (Some (number_of t)) (u ∷ us) after next (KeysDiffer-rest t (u ∷ us) differ)
          (λ key row h. changed key row (omega (arith, keys_with-more key t (u ∷ us)))) (λ key h. others key (omega (arith, keys_with-more key t (u ∷ us)))) p.1,
    )

-- another row may stand in front of the first one
pub IsThread-previous : (old new : Slab TimerRow) (before previous : Option RowNumber) (ts : List Timer) (after : Option RowNumber) → KeysDiffer ts
    → ((key : ℕ) (row : TimerRow) → first_or ts None ≡ Some (record { 0 = key }) → get old key ≡ Some row → get new key ≡ Some (record row { previous = previous }))
    → ((key : ℕ) → 1 ≤ keys_with key ts → first_or ts None ≢ Some (record { 0 = key }) → get new key ≡ get old key) → IsThread old before ts after
    → IsThread new previous ts after
IsThread-previous old new before previous [] after differ changed others p = tt
IsThread-previous old new before previous (t ∷ ts) after differ changed others p = (
  changed t.key _ refl p.0,
  IsThread-frame old new (Some (number_of t)) ts after
      (λ key h. others key (omega (arith, keys_with-more key t ts)) (λ e. let same : t.key ≡ key = number_is (number_of t) (record { 0 = key }) e in
      omega (arith, rw same at (key_is_once t ts differ))))
      p.1,
)

-- the timers that are met are those of the thread
pub walk_is : (rows : Slab TimerRow) (steps : ℕ) (before : Option RowNumber) (ts : List Timer) → IsThread rows before ts None → length ts ≤ steps
    → walk rows steps (first_or ts None) ≡ ts
walk_is rows zero before [] p fits = refl
walk_is rows zero before (t ∷ ts) p fits = absurd (omega arith)
walk_is rows (suc steps) before [] p fits = refl
walk_is rows (suc steps) before (t ∷ ts) p fits = rw p.0 (ap (λ us. t ∷ us) (walk_is rows steps (Some (number_of t)) ts p.1 (omega arith)))

-- without a key that none has, all are left
pub without_none : (key : ℕ) (ts : List Timer) → keys_with key ts ≡ 0 → without key ts ≡ ts
without_none key [] none = refl
without_none key (t ∷ ts) none =
    let rest : keys_with key ts ≡ 0 = omega (arith, keys_with-more key t ts) in
    elim (eqb t.key key) as (λ b. (eqb t.key key ≡ b) → cond (not b) (t ∷ without key ts) (without key ts) ≡ t ∷ ts) [
      | true ↦ (λ e. absurd (grind (arith, nat_tests, keys_with-cons key t ts)))
      | false ↦ (λ e. ap (λ us. t ∷ us) (without_none key ts rest))
    ] refl

without_here : (key : ℕ) (t : Timer) (ts : List Timer) → eqb t.key key ≡ true → without key (t ∷ ts) ≡ without key ts
without_here key t ts e = rw e refl

without_past : (key : ℕ) (t : Timer) (ts : List Timer) → eqb t.key key ≡ false → without key (t ∷ ts) ≡ t ∷ without key ts
without_past key t ts e = rw e refl

-- two keys may be taken out one after the other, or the other way round
pub without_swap : (key other : ℕ) (ts : List Timer) → without key (without other ts) ≡ without other (without key ts)
without_swap key other [] = refl
without_swap key other (t ∷ ts) = by_keys (eqb t.key key) (eqb t.key other) (without_swap key other ts) refl refl
  where
    by_keys : (b c : Bool) → without key (without other ts) ≡ without other (without key ts) → eqb t.key key ≡ b → eqb t.key other ≡ c
        → without key (without other (t ∷ ts)) ≡ without other (without key (t ∷ ts))
    by_keys true true rest e f = ap (without key) (without_here other t ts f) ∙ rest ∙ sym (ap (without other) (without_here key t ts e))
    by_keys true false rest e f = ap (without key) (without_past other t ts f) ∙ without_here key t (without other ts) e ∙ rest
        ∙ sym (ap (without other) (without_here key t ts e))
    by_keys false true rest e f = ap (without key) (without_here other t ts f) ∙ rest ∙ sym (without_here other t (without key ts) f)
        ∙ sym (ap (without other) (without_past key t ts e))
    by_keys false false rest e f = ap (without key) (without_past other t ts f) ∙ without_past key t (without other ts) e ∙ ap (λ us. t ∷ us) rest
        ∙ sym (without_past other t (without key ts) f) ∙ sym (ap (without other) (without_past key t ts e))

without-append : (key : ℕ) (xs ys : List Timer) → without key (xs ++ ys) ≡ without key xs ++ without key ys
without-append key xs ys = filter-append (λ t. not (eqb t.key key)) xs ys

-- a timer of a new key that was put behind the others is taken out again
pub without_put : (ts : List Timer) (t : Timer) → keys_with t.key ts ≡ 0 → without t.key (ts ++ t ∷ []) ≡ ts
without_put ts t fresh =
    let own : eqb t.key t.key ≡ true = grind (arith, nat_tests) in
    without-append t.key ts (t ∷ []) ∙ ap (λ us. without t.key ts ++ us) (without_here t.key t [] own) ∙ append-nil (without t.key ts) ∙ without_none t.key ts fresh

-- another one is taken out, behind which it was put
pub without_put_other : (key : ℕ) (ts : List Timer) (t : Timer) → t.key ≢ key → without key (ts ++ t ∷ []) ≡ without key ts ++ t ∷ []
without_put_other key ts t other =
    let past : eqb t.key key ≡ false = grind (arith, nat_tests) in
    without-append key ts (t ∷ []) ∙ ap (λ us. without key ts ++ us) (without_past key t [] past)

pub keys_without : (key other : ℕ) (ts : List Timer) → keys_with other (without key ts) ≤ keys_with other ts
keys_without key other ts =
    rw (count-without (λ t. eqb t.key other) key ts) (count_le (λ t. not (eqb t.key key) && eqb t.key other) (λ t. eqb t.key other) ts (λ t h. grind (arith, nat_tests)))

pub KeysDiffer-without : (key : ℕ) (ts : List Timer) → KeysDiffer ts → KeysDiffer (without key ts)
KeysDiffer-without key ts differ = λ other. omega (arith, differ other, keys_without key other ts)

-- the timers in front of the one of a key and behind it
pub record Split (key : ℕ) (ts : List Timer) : Type 0 where
  pub front : List Timer
  pub timer : Timer
  pub back : List Timer
  pub whole : ts ≡ front ++ timer ∷ back
  pub keyed : timer.key ≡ key
  pub rest : without key ts ≡ front ++ back

split_here : (key : ℕ) (t : Timer) (ts : List Timer) → KeysDiffer (t ∷ ts) → eqb t.key key ≡ true → Split key (t ∷ ts)
split_here key t ts differ e =
    let same : t.key ≡ key = grind (arith, nat_tests) in
    let none : keys_with key ts ≡ 0 = rw same at (key_is_once t ts differ) in
    record { front = []; timer = t; back = ts; whole = refl; keyed = same; rest = rw e (without_none key ts none) }

split_later : (key : ℕ) (t : Timer) (ts : List Timer) → eqb t.key key ≡ false → Split key ts → Split key (t ∷ ts)
split_later key t ts e later =
    record {
      front = t ∷ later.front;
      timer = later.timer;
      back = later.back;
      whole = ap (λ us. t ∷ us) later.whole;
      keyed = later.keyed;
      rest = rw e (ap (λ us. t ∷ us) later.rest);
    }

stands_later : (key : ℕ) (t : Timer) (ts : List Timer) → eqb t.key key ≡ false → 1 ≤ keys_with key (t ∷ ts) → 1 ≤ keys_with key ts
stands_later key t ts e stands = grind (arith, nat_tests, keys_with-cons key t ts)

pub split_at : (key : ℕ) (ts : List Timer) → KeysDiffer ts → 1 ≤ keys_with key ts → Split key ts
split_at key [] differ stands = absurd (omega (arith, stands))
split_at key (t ∷ ts) differ stands =
    elim (eqb t.key key) as (λ b. (eqb t.key key ≡ b) → Split key (t ∷ ts)) [
      | true ↦ (λ e. split_here key t ts differ e)
      | false ↦ (λ e. split_later key t ts e (split_at key ts (KeysDiffer-rest t ts differ) (stands_later key t ts e stands)))
    ] refl
