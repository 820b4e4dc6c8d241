-- What is due next, and what isn't due by a moment.
use Rattle.std.proofs.Common.{◌≡◌, ◌≤◌, ◌<◌, ℕ, List, [], ◌∷◌, Option, Some, None, MatchOption, IfSome, nat_lt, Bool, true, false, refl, arith}
use Rattle.std.specs.List.{AllByRecursion}
use Rattle.std.proofs.lemmas.Bool.Decides.{nat_tests}
use Rattle.sip_engine_request.specs.Next.{IsNext}
use Rattle.sip_engine_request.specs.fork.Due.{IsNothingDue}
use Rattle.sip_model.specs.steps_model.Step.{NoneAgainBefore, NoneAgainBy, NoneBefore, NoneBy}
use Rattle.sip_verdict.specs.context_model.Retransmission.{resends}
use Rattle.sip_verdict.specs.state.State.{deadlines}
use Rattle.sip_verdict.specs.state.declared.open_request.OpenRequest.{OpenRequest}

not_by : (moment due : ℕ) → due < moment → (dues : List ℕ) → AllByRecursion (λ (d : ℕ). moment ≤ d) dues → AllByRecursion (λ (d : ℕ). due < d) dues
not_by moment due lt [] h = tt
not_by moment due lt (d ∷ dues) h = (let le : moment ≤ d = h.0 in omega (arith, le, lt), not_by moment due lt dues h.1)

module _ (requests : List OpenRequest) where
  -- what is due next isn't due before a moment before which nothing is
  pub no_earlier : (moment : ℕ) (o : Option ℕ) → NoneBefore moment requests → NoneAgainBefore moment requests
      → ((due m : ℕ) → IsNext requests due → due ≤ m → NoneBy m requests → NoneAgainBy m requests → ⊥)
      → MatchOption o (IsNothingDue requests) (IsNext requests) → IfSome o (λ due. moment ≤ due)
  no_earlier moment None none again from_then h = tt
  no_earlier moment (Some due) none again from_then h = by_test (nat_lt due moment) refl where
    by_test : (b : Bool) → nat_lt due moment ≡ b → moment ≤ due
    by_test true is =
        let lt : due < moment = grind (arith, nat_tests, is) in
        absurd (from_then due due h (omega arith) (not_by moment due lt (deadlines requests) none) (not_by moment due lt (resends requests) again))
    by_test false is = grind (arith, nat_tests, is)

  -- by a moment before what is due next, nothing is due
  pub none_by : (o : Option ℕ) → ((due m : ℕ) → IsNext requests due → m < due → NoneBy m requests)
      → ((due m : ℕ) → IsNext requests due → m < due → NoneAgainBy m requests)
      → ((m : ℕ) → IsNothingDue requests → NoneBy m requests) → ((m : ℕ) → IsNothingDue requests → NoneAgainBy m requests)
      → MatchOption o (IsNothingDue requests) (IsNext requests) → (m : ℕ) → ((due : ℕ) → o ≡ Some due → m < due) → NoneBy m requests × NoneAgainBy m requests
  none_by None before before_again never never_again h m later = (never m h, never_again m h)
  none_by (Some due) before before_again never never_again h m later = (before due m h (later due refl), before_again due m h (later due refl))
