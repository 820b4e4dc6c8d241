-- What a script can say.
use Rattle.std.proofs.Common.{◌≡◌, ◌≢◌, ℕ, ◌≤◌, ◌<◌, ◌^◌, Bool, true, false, not, cond, List, length, Option, None, Some, refl, ap₂, subst, arith}
use Rattle.std.specs.Prelude.{◌&&◌, ◌==◌, nat_le, nat_lt}
use Rattle.std.proofs.lemmas.Bool.Decides.{nat_tests}
use Rattle.sip_event.specs.declared.event.Event.TheVariants.{Datagram}
use Rattle.sip_transport.specs.Told.{IsWritable}
use Rattle.sip_uri.specs.declared.addr.Addr.{Addr}
use Rattle.sip_replay_script.specs.EventText.{is_moment, is_sayable}
use Rattle.sip_model.specs.state.declared.proxy_state.ProxyState.{ProxyState}
use Rattle.sip_run.specs.engine.StepError.{is_too_large, refusal_at, refusal_of}
use Rattle.sip_run.specs.engine.declared.error.StepError.{StepError}
use Rattle.sip_run.specs.engine.declared.error.StepError.TheVariants.{MomentTooLarge, Worn}

-- a moment that isn't too large is one that a script says
small : (at most : ℕ) → nat_le most at ≡ false → nat_lt at most ≡ true
small at most h = grind (arith, nat_tests)

below : (at most : ℕ) → at < most → nat_lt at most ≡ true
below at most h = grind (arith, nat_tests)

within : (n most : ℕ) → n ≤ most → nat_le n most ≡ true
within n most h = grind (arith, nat_tests)

not_zero : (n : ℕ) → n ≢ 0 → not (n == 0) ≡ true
not_zero n h = grind (arith, nat_tests)

pub small_moment : (at : ℕ) → refusal_at at ≡ None → is_moment at ≡ true
small_moment at h = by_test (is_too_large at) refl where
  by_test : (t : Bool) → is_too_large at ≡ t → is_moment at ≡ true
  by_test true e = absurd (let r : Some MomentTooLarge ≡ None = subst (λ (v : Bool). cond {A = Option StepError} v (Some MomentTooLarge) None ≡ None) e h in cc)
  by_test false e = small at (2 ^ 62) e

pub is_small : (at : ℕ) → at < 2 ^ 62 → is_moment at ≡ true
is_small at h = below at (2 ^ 62) h

small_arrival : (state : ProxyState) (at : ℕ) → refusal_of state at ≡ None → is_moment at ≡ true
small_arrival state at h = by_test (is_too_large at) refl where
  by_test : (t : Bool) → is_too_large at ≡ t → is_moment at ≡ true
  by_test true e =
      absurd
      (let r : Some MomentTooLarge ≡ None =
      subst (λ (v : Bool). cond {A = Option StepError} v (Some MomentTooLarge) (cond (is_too_large state.next) (Some Worn) None) ≡ None) e h in cc)
  by_test false e = small at (2 ^ 62) e

pub datagram_says : (state : ProxyState) (at word : ℕ) (from : Addr) (held : List ℕ) → refusal_of state at ≡ None → IsWritable from held
    → is_sayable (Datagram at word from held) ≡ true
datagram_says state at word from held none writable =
    ap₂ (λ (a b : Bool). a && b) (small_arrival state at none) (ap₂ (λ (a b : Bool). a && b) (not_zero from.port writable.0) (within (length held) 65508 writable.1))
