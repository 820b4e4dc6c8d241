-- A look through a list, which has come to one of its rows.
use Rattle.std.proofs.Common.{◌≡◌, ◌≤◌, ◌<◌, List, [], ◌∷◌, length, Option, Some, None, is_some, option_map, refl, sym, ap, subst, ◌∙◌, arith}
use Rattle.slab.specs.Slab.{Slab, get, ContainsKey, slab_len}
use Rattle.sip_timers.specs.declared.timer.Timer.{Timer}
use Rattle.sip_timers_wheel.specs.declared.row.RowNumber.{RowNumber}
use Rattle.sip_timers_wheel.specs.declared.row.TimerRow.{TimerRow}
use Rattle.sip_timers_wheel.specs.declared.head.ListHead.{ListHead}
use Rattle.sip_timers_wheel.specs.Lists.{least}
use Rattle.sip_timers_wheel.specs.Threads.{number_of, first_or, timer_of, row_of, IsThread, walk, IsHeld, timer_at, sooner}
use Rattle.sip_timers_wheel.proofs.Threads.{walk_is}
use Rattle.sip_timers_wheel.proofs.Dues.{sooner-assoc}
use Rattle.sip_timers_wheel.proofs.Holding.{same_row}

-- what was found so far, with the least of those that are left, is what is looked for
pub record IsLeft (rows : Slab TimerRow) (at : Option RowNumber) (best whole : Option Timer) : Type 0 where
  pub before : Option RowNumber
  pub rest : List Timer
  pub thread : IsThread rows before rest None
  pub starts : at ≡ first_or rest None
  pub fits : length rest ≤ slab_len rows
  pub answer : sooner best (least rest) ≡ whole

pub left_at_first : (rows : Slab TimerRow) (head : ListHead) (ts : List Timer) → IsHeld rows head ts → IsLeft rows head.first None (least ts)
left_at_first rows head ts held = record { before = None; rest = ts; thread = held.thread; starts = held.first; fits = held.fits; answer = refl }

-- what is met from a row on
pub record Next (rows : Slab TimerRow) (n : RowNumber) (best whole : Option Timer) : Type 0 where
  pub row : TimerRow
  pub found : get rows n.0 ≡ Some row
  pub later : IsLeft rows row.next (sooner best (Some (timer_of n.0 row))) whole
  pub fewer : length (walk rows (slab_len rows) row.next) < length (walk rows (slab_len rows) (Some n))

pub next_of : (rows : Slab TimerRow) (n : RowNumber) (best whole : Option Timer) → IsLeft rows (Some n) best whole → Next rows n best whole
next_of rows n best whole left = by_rest left.before left.rest left.thread left.starts left.fits left.answer
  where
    by_rest : (before : Option RowNumber) (rest : List Timer) → IsThread rows before rest None → Some n ≡ first_or rest None → length rest ≤ slab_len rows
        → sooner best (least rest) ≡ whole → Next rows n best whole
    by_rest before [] thread starts fits answer = absurd (cc)
    by_rest before (t ∷ ts) thread starts fits answer =
        let same : number_of t ≡ n = cc in
        let all = walk_is rows (slab_len rows) before (t ∷ ts) thread fits in
        let rest = walk_is rows (slab_len rows) (Some (number_of t)) ts thread.1 (omega (arith, fits)) in
        let P : RowNumber → Type 0 = λ m. Next rows m best whole in
        subst P same (record {
          row = row_of before t (first_or ts None);
          found = thread.0;
          later = record {
            before = Some (number_of t);
            rest = ts;
            thread = thread.1;
            starts = refl;
            fits = omega (arith, fits);
            answer = sooner-assoc best (Some t) (least ts) ∙ answer;
          };
          fewer = omega (arith, ap length all, ap length rest);
        })

sooner_none : (best : Option Timer) → sooner best None ≡ best
sooner_none None = refl
sooner_none (Some t) = refl

pub found_all : (rows : Slab TimerRow) (at : Option RowNumber) (best whole : Option Timer) → IsLeft rows at best whole → at ≡ None → best ≡ whole
found_all rows at best whole left is = by_rest left.rest (sym is ∙ left.starts) left.answer
  where
    by_rest : (rest : List Timer) → None ≡ first_or rest None → sooner best (least rest) ≡ whole → best ≡ whole
    by_rest [] starts answer = sym (sooner_none best) ∙ answer
    by_rest (t ∷ ts) starts answer = absurd (cc)

pub row_is_next : (rows : Slab TimerRow) (at : Option RowNumber) (n : RowNumber) (best whole : Option Timer) → IsLeft rows at best whole → at ≡ Some n
    → ContainsKey rows n.0
row_is_next rows at n best whole left is = let P : Option RowNumber → Type 0 = λ o. IsLeft rows o best whole in
    ap is_some (next_of rows n best whole (subst P is left)).found

pub left_after : (rows : Slab TimerRow) (at : Option RowNumber) (n : RowNumber) (best next whole : Option Timer) (row : TimerRow) (t : Timer) → IsLeft rows at best whole
    → at ≡ Some n → get rows n.0 ≡ Some row → timer_at rows n ≡ Some t → next ≡ sooner best (Some t)
    → IsLeft rows row.next next whole × (length (walk rows (slab_len rows) row.next) < length (walk rows (slab_len rows) at))
left_after rows at n best next whole row t left is found timer chosen =
    let P : Option RowNumber → Type 0 = λ o. IsLeft rows o best whole in
    let step = next_of rows n best whole (subst P is left) in
    let same : step.row ≡ row = same_row (step.row) row (sym step.found ∙ found) in
    let best_is : sooner best (Some (timer_of n.0 step.row)) ≡ next = ap (λ o. sooner best o) (sym (ap (λ o. option_map (timer_of n.0) o) step.found) ∙ timer)
    ∙ sym chosen in
    let Q : TimerRow → Type 0 = λ r. IsLeft rows r.next next whole × (length (walk rows (slab_len rows) r.next) < length (walk rows (slab_len rows) at)) in
    let R : Option Timer → Type 0 = λ o. IsLeft rows (step.row).next o whole in
    subst Q same (subst R best_is step.later, omega (arith, step.fewer, ap (λ o. length (walk rows (slab_len rows) o)) is))
