-- A moment comes: what is kept is kept later.
use Rattle.std.proofs.Common.{◌≡◌, ℕ, ◌+◌, ◌-◌, ◌<◌, ◌≤◌, ◌^◌, List, max, sym, subst, arith, leb}
use Rattle.std.proofs.Math.Nat.{le-max_left, max-le}
use Rattle.sip_timers.specs.declared.timer.Timer.{Timer}
use Rattle.sip_timers.specs.Timers.{due_by}
use Rattle.sip_dialog_updates.specs.state.declared.open_request.OpenRequest.{OpenRequest}
use Rattle.model_steps.specs.Step.{NoneBefore, NoneAgainBefore}
use Rattle.sip_request.specs.transactions_model.Near.{IsWithin}
use Rattle.sip_request.specs.declared.request.Request.{Request}
use Rattle.sip_fork.specs.Contexts.{AreTied, IsKept}
use Rattle.sip_fork.specs.Timing.{Timing}
use Rattle.sip_fork.proofs.Passing.{rows_pass}
use Rattle.sip_fork.proofs.Tying.{contexts}

-- what is near a bound is near every later one
abbrev pub Passes : Type 0
Passes = (bound later : ℕ) (r : OpenRequest) → bound ≤ later → IsWithin bound r → IsWithin later r

pub tied_later : Passes → (pending new : List Timer) (reached later : ℕ) (rows : List Request) → AreTied pending reached rows → new ≡ pending → reached ≤ later
    → later < 2 ^ 62 → AreTied new later rows
tied_later passes pending new reached later rows h still le early = subst (λ (ts : List Timer). AreTied ts later rows) (sym still) (record {
  same = h.same;
  keys_differ = h.keys_differ;
  kept = λ i d lt. (let k : IsKept reached _ = h.kept i d lt in record {
    keys = k.keys;
    fits = k.fits;
    within = passes (reached + 1) (later + 1) _ (omega (arith, le)) k.within;
    numbers = k.numbers;
    branched = k.branched;
  });
  early = early;
  numbered = h.numbered;
})

-- no timer is due before
pub none_due : Timing → (pending : List Timer) (reached moment : ℕ) (rows : List Request) → AreTied pending reached rows → 0 < moment → NoneBefore moment (contexts rows)
    → NoneAgainBefore moment (contexts rows) → due_by (moment - 1) pending ≡ 0
none_due timing pending reached moment rows h positive ends again =
    let before : (moment - 1) + 1 ≡ moment = omega (arith, positive) in
    omega (
      arith,
      h.same (λ (t : Timer). leb t.due (moment - 1)),
      rows_pass timing (moment - 1) rows (subst (λ (m : ℕ). NoneBefore m (contexts rows)) (sym before) ends)
          (subst (λ (m : ℕ). NoneAgainBefore m (contexts rows)) (sym before) again),
    )

-- a moment comes behind all that came
pub no_less : (reached moment later : ℕ) → later ≡ max reached moment → reached ≤ later
no_less reached moment later e = subst (λ (n : ℕ). reached ≤ n) (sym e) (le-max_left reached moment)

pub still_early : (reached moment later : ℕ) → later ≡ max reached (moment - 1) → reached < 2 ^ 62 → moment < 2 ^ 62 → later < 2 ^ 62
still_early reached moment later e early before =
    let most : max reached (moment - 1) ≤ 2 ^ 62 - 1 = max-le (omega (arith, early)) (omega (arith, before)) in
    omega (arith, e, most)
