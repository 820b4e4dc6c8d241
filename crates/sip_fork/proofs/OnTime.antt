-- The moments of open requests stay near the last one that came.
use Rattle.std.proofs.Common.{◌≡◌, ℕ, ◌+◌, ◌<◌, ◌≤◌, ◌-◌, ◌^◌, ◌==◌, Bool, true, false, cond, List, [], ◌∷◌, ◌++◌, max, slice_get, Some, sym, subst, arith}
use Rattle.std.specs.List.{All}
use Rattle.std.proofs.Math.Nat.{le-max_left, le-max_right, max-le}
use Rattle.std.proofs.lemmas.Option.{get_or_from_slice_get, slice_get_within}
use Rattle.std.proofs.lemmas.List.Elements.{All-append, All-get_or, All-cons, All-head, All-nil, All-tail}
use Rattle.model_steps.specs.Effect.{replaced}
use Rattle.sip_dialog_updates.specs.state.State.{has_left}
use Rattle.sip_dialog_updates.specs.state.declared.open_request.OpenRequest.{OpenRequest}
use Rattle.sip_request.specs.transactions_model.Near.{IsWithin}
use Rattle.sip_timers.specs.declared.timer.Timer.{Timer}
use Rattle.sip_request.specs.declared.request.Request.{Request}
use Rattle.sip_fork.specs.Contexts.{AreOnTime, AreTied, AreWhole}
use Rattle.sip_fork.proofs.Later.{Passes}
use Rattle.sip_fork.proofs.Tying.{contexts}

module _ (P : OpenRequest → Type 0) where
  -- what holds of all and of a request holds where it stands in place of the one of its number
  all-replaced : (r : OpenRequest) (xs : List OpenRequest) → P r → All P xs → All P (replaced r xs)
  all-replaced r [] p all = All-nil P
  all-replaced r (x ∷ xs) p all = by_number (x.number == r.number) (has_left r) (All-tail P x xs all) (all-replaced r xs p (All-tail P x xs all)) where
    by_number : (same left : Bool) → All P xs → All P (replaced r xs) → All P (cond same (cond left xs (r ∷ xs)) (x ∷ replaced r xs))
    by_number true true rest more = rest
    by_number true false rest more = All-cons P r xs p rest
    by_number false left rest more = All-cons P x (replaced r xs) (All-head P x xs all) more

-- after a change of a request
pub changed : (moment reached : ℕ) (r : OpenRequest) (old new : List OpenRequest) → IsWithin moment r → AreOnTime moment reached old → new ≡ replaced r old
    → AreOnTime moment reached new
changed moment reached r old new near h e = record {
  soon = h.soon;
  small = h.small;
  within =
      subst (All (IsWithin moment)) (sym e) (all-replaced (IsWithin moment) r old near h.within);
}

-- the whole after it
pub whole : (moment reached : ℕ) (r : OpenRequest) (old : List OpenRequest) (pending : List Timer) (later : ℕ) (rows : List Request) → IsWithin moment r
    → AreOnTime moment reached old
    → contexts rows ≡ replaced r old → later ≡ reached → AreTied pending later rows → AreWhole pending moment later rows
whole moment reached r old pending later rows near h e still tied =
    record { tied = tied; on_time = subst (λ (n : ℕ). AreOnTime moment n (contexts rows)) (sym still) (changed moment reached r old (contexts rows) near h e) }

-- after one is opened
pub opened : (moment reached : ℕ) (r : OpenRequest) (old new : List OpenRequest) → IsWithin moment r → AreOnTime moment reached old → new ≡ old ++ r ∷ []
    → AreOnTime moment reached new
opened moment reached r old new near h e = record {
  soon = h.soon;
  small = h.small;
  within = subst (All (IsWithin moment)) (sym e) (All-append (IsWithin moment) old (r ∷ []) h.within (All-cons (IsWithin moment) r [] near (All-nil (IsWithin moment))));
}

-- after a moment came
pub come : Passes → (moment reached now later : ℕ) (requests : List OpenRequest) → AreOnTime moment reached requests → now < 2 ^ 62 → reached ≤ later → now ≤ later + 1
    → AreOnTime (max moment now) later requests
come passes moment reached now later requests h small no_less soon = record {
  soon = max-le (omega (arith, h.soon, no_less)) soon;
  small = (let most : max moment now ≤ 2 ^ 62 - 1 = max-le (omega (arith, h.small)) (omega (arith, small)) in omega (arith, most));
  within = λ i d lt. passes moment (max moment now) _ (le-max_left moment now) (h.within i d lt);
}

-- the request at a place
pub near_at : (moment reached : ℕ) (requests : List OpenRequest) (i : ℕ) (r : OpenRequest) → AreOnTime moment reached requests → slice_get requests i ≡ Some r
    → IsWithin moment r
near_at moment reached requests i r h at =
    subst (IsWithin moment) (get_or_from_slice_get requests i r r at) (All-get_or (IsWithin moment) requests i r (slice_get_within requests i r at) h.within)

-- timers were told of the millisecond before it
pub told : (reached moment later : ℕ) → later ≡ max reached (moment - 1) → moment ≤ later + 1
told reached moment later e =
    let most : moment - 1 ≤ max reached (moment - 1) = le-max_right reached (moment - 1) in
    omega (arith, e, most)
