-- The timers of a part as they stand, by how many pass a test.
use Rattle.std.proofs.Common.{◌≡◌, ℕ, Bool, List, [], ◌∷◌, refl, arith}
use Rattle.std.specs.Prelude.{count_by}
use Rattle.sip_timers.specs.declared.letter.Letter.{Letter}
use Rattle.sip_timers.specs.declared.timer.Owner.{Owner}
use Rattle.sip_timers.specs.declared.timer.Timer.{Timer}
use Rattle.sip_request.specs.transactions_model.Ties.{named, part_timers}
use Rattle.sip_request.specs.transactions_model.declared.timer_keys.TimerKeys.{TimerKeys}
use Rattle.sip_timers.proofs.Counting.{count-cons}

pub count_part : (p : Timer → Bool) (number : ℕ) (owner : Owner) (keys : TimerKeys) (ts : List (Letter × ℕ))
    → count_by p (part_timers number owner keys ts) ≡ count_by (λ (t : Letter × ℕ). p (named number owner keys t)) ts
count_part p number owner keys [] = refl
count_part p number owner keys (t ∷ ts) = omega (
  arith,
  count_part p number owner keys ts,
  count-cons p (named number owner keys t) (part_timers number owner keys ts),
  count-cons (λ (u : Letter × ℕ). p (named number owner keys u)) t ts,
)
