-- How often something was sent, and when it goes next.
use Rattle.std.proofs.Common.{◌≡◌, ℕ, ◌+◌, ◌-◌, ◌*◌, ◌^◌, ◌<◌, ◌≤◌, Bool, true, false, refl, arith, add-one, leb}
use Rattle.std.specs.Prelude.{min}
use Rattle.std.proofs.lemmas.Bool.Decides.{nat_tests}
use Rattle.std.proofs.Math.Nat.{pow-suc}
use Rattle.std.proofs.Math.Pow.{pow_mono}
use Rattle.sip_context_branches.specs.state.declared.resend.Resend.{Resend}
use Rattle.sip_context_branches.specs.context_model.Retransmission.{resend_after}
use Rattle.model_transactions.specs.Copies.{IsSent, IsSteady, IsTimely}

-- the next power of two
twice : (n : ℕ) → 2 ^ (n + 1) ≡ 2 * 2 ^ n
twice n = rw (add-one, pow-suc) (omega arith)

-- numbers alone: the wait and the moment, doubled
next_wait : (p wait most : ℕ) → 2 * wait ≡ 500 * p → 500 * p ≤ most → min (2 * wait) most ≡ 500 * p
next_wait p wait most e h = omega arith

next_due : (first due p : ℕ) → 1 ≤ p → due ≡ first + 500 * (p - 1) → due + 500 * p ≡ first + 500 * (2 * p - 1)
next_due first due p one e = omega arith

-- one more sending, while the wait stays below the most
pub sent_again : (most first times : ℕ) (again : Resend) → IsSent first times again → 500 * 2 ^ times ≤ most → IsSent first (times + 1) (resend_after most again)
sent_again most first times again sent low =
    let one : 1 ≤ 2 ^ times = pow_mono {i = 0} {j = times} (omega arith) in
    let wait : min (2 * again.wait) most ≡ 500 * 2 ^ times = next_wait (2 ^ times) again.wait most sent.wait low in
    let due : again.due + 500 * 2 ^ times ≡ first + 500 * (2 * 2 ^ times - 1) = next_due first again.due (2 ^ times) one sent.due in
    record {
      due = omega (arith, wait, twice times, due);
      wait = omega (arith, wait, twice times);
    }

pub few_times : (times limit : ℕ) → times ≤ limit → 2 ^ times ≤ 2 ^ limit
few_times times limit h = pow_mono h

pub invite_again : (first times : ℕ) (again : Resend) → IsSent first times again → times < 7 → IsSent first (times + 1) (resend_after 32000 again)
invite_again first times again sent few =
    let high : 2 ^ times ≤ 64 = few_times times 6 (omega arith) in
    sent_again 32000 first times again sent (omega arith)

pub other_again : (first times : ℕ) (again : Resend) → IsSent first times again → times < 4 → IsSent first (times + 1) (resend_after 4000 again)
other_again first times again sent few =
    let high : 2 ^ times ≤ 8 = few_times times 3 (omega arith) in
    sent_again 4000 first times again sent (omega arith)

bound_of : (first due p : ℕ) → due ≡ first + 500 * (p - 1) → due ≤ first + 32000 → p ≤ 65
bound_of first due p e h = omega arith

pub invite_bound : (first times : ℕ) (again : Resend) → IsSent first times again → again.due ≤ first + 32000 → times ≤ 6
invite_bound first times again sent early = by_test (leb times 6) refl where
  by_test : (t : Bool) → leb times 6 ≡ t → times ≤ 6
  by_test true e = grind (arith, nat_tests)
  by_test false e =
      let many : 7 ≤ times = grind (arith, nat_tests) in
      let high : 128 ≤ 2 ^ times = pow_mono {i = 7} {j = times} many in
      let low : 2 ^ times ≤ 65 = bound_of first again.due (2 ^ times) sent.due early in
      absurd (omega arith)

pub fourth : (first : ℕ) (again : Resend) → IsSent first 4 again → IsSteady first 4 again
fourth first again sent = record {
  due = (let e : again.due ≡ first + 500 * (16 - 1) = sent.due in omega arith);
  wait = (let e : 2 * again.wait ≡ 500 * 16 = sent.wait in omega arith);
}

pub steady_again : (first times : ℕ) (again : Resend) → IsSteady first times again → IsSteady first (times + 1) (resend_after 4000 again)
steady_again first times again sent =
    let wait : min (2 * again.wait) 4000 ≡ 4000 = (let e = sent.wait in omega arith) in
    record { due = omega (arith, wait, sent.due); wait = wait }

pub other_bound : (first times : ℕ) (again : Resend) → IsSteady first times again → again.due ≤ first + 32000 → times ≤ 10
other_bound first times again sent early = let e = sent.due in omega arith

-- ---- timely

pub timely_again : (until most : ℕ) (again : Resend) → 4000 ≤ most → IsTimely until again → IsTimely until (resend_after most again)
timely_again until most again high timely = let near = timely.near in let long = timely.long in record { near = omega arith; long = omega arith }
