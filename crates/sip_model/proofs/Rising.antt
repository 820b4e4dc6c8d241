-- Open requests stand in rising order of their numbers.
use Rattle.std.proofs.Common.{◌≡◌, ◌∙◌, ℕ, ◌≤◌, ◌<◌, ◌==◌, Bool, true, false, cond, List, [], ◌∷◌, ◌++◌, refl, sym, subst, arith}
use Rattle.std.proofs.lemmas.Bool.Decides.{nat_tests}
use Rattle.std.specs.List.{AllByRecursion}
use Rattle.model_steps.specs.state.declared.server.Server.{Server}
use Rattle.model_steps.specs.state.declared.open_request.OpenRequest.{OpenRequest}
use Rattle.model_steps.specs.state.declared.proxy_state.ProxyState.{ProxyState}
use Rattle.model_steps.specs.state.State.{first_state, has_left}
use Rattle.model_steps.specs.context_model.Branches.{acknowledged}
use Rattle.model_steps.specs.Effect.{replaced}
use Rattle.sip_model.specs.Run.{Link, under, IsChain}
use Rattle.sip_model.specs.Order.{AreRising, FinalAnswer}
use Rattle.sip_model.proofs.Places.{all_push, all_weaker}
use Rattle.sip_model.proofs.Moves.{IsMove, Stays, TurnsAway, Opens, Changes, Resends, Acknowledges, kept_by_moves}
use Rattle.sip_model.proofs.Openings.{opening_number}
use Rattle.sip_model.proofs.Steps.{stands_at, step_taken}

-- they stand so, and each number is below the next datagram's
pub record IsRising (requests : List OpenRequest) (next : ℕ) : Type 0 where
  pub rising : AreRising requests
  pub below : AllByRecursion (λ (x : OpenRequest). x.number < next) requests

-- numbers that pass the test are equal
pub number_is : (a b : ℕ) → (a == b) ≡ true → a ≡ b
number_is a b e = grind (arith, nat_tests)

-- what holds of all numbers holds of them with a request in place of the one of its number
keeps_numbers : (P : ℕ → Type 0) (new : OpenRequest) (rs : List OpenRequest) → AllByRecursion (λ (x : OpenRequest). P x.number) rs
    → AllByRecursion (λ (x : OpenRequest). P x.number) (replaced new rs)
keeps_numbers P new [] all = tt
keeps_numbers P new (x ∷ xs) all = by_test (x.number == new.number) refl (has_left new) (keeps_numbers P new xs all.1) where
  by_test : (t : Bool) → (x.number == new.number) ≡ t → (left : Bool) → AllByRecursion (λ (y : OpenRequest). P y.number) (replaced new xs)
      → AllByRecursion (λ (y : OpenRequest). P y.number) (cond t (cond left xs (new ∷ xs)) (x ∷ replaced new xs))
  by_test true is true rest = all.1
  by_test true is false rest = (subst P (number_is x.number new.number is) all.0, all.1)
  by_test false is left rest = (all.0, rest)

-- and they stay in their order
rising_replaced : (new : OpenRequest) (rs : List OpenRequest) → AreRising rs → AreRising (replaced new rs)
rising_replaced new [] h = tt
rising_replaced new (x ∷ xs) h = by_test (x.number == new.number) refl (has_left new) (rising_replaced new xs h.1) where
  by_test : (t : Bool) → (x.number == new.number) ≡ t → (left : Bool) → AreRising (replaced new xs) → AreRising (cond t (cond left xs (new ∷ xs)) (x ∷ replaced new xs))
  by_test true is true rest = h.1
  by_test true is false rest = (subst (λ (number : ℕ). AllByRecursion (λ (y : OpenRequest). number < y.number) xs) (number_is x.number new.number is) h.0, h.1)
  by_test false is left rest = (keeps_numbers (λ number. x.number < number) new xs h.0, rest)

-- one more with the next number comes last
rising_push : (rs : List OpenRequest) (r : OpenRequest) (next : ℕ) → AreRising rs → AllByRecursion (λ (x : OpenRequest). x.number < next) rs → r.number ≡ next
    → AreRising (rs ++ r ∷ [])
rising_push [] r next h below e = (tt, tt)
rising_push (x ∷ xs) r next h below e =
    let last : x.number < r.number = omega (arith, below.0, e) in
    (all_push (λ (y : OpenRequest). x.number < y.number) xs r h.0 last, rising_push xs r next h.1 below.1 e)

-- numbers stay below a later one
below_later : (rs : List OpenRequest) (next after_next : ℕ) → next ≤ after_next → AllByRecursion (λ (x : OpenRequest). x.number < next) rs
    → AllByRecursion (λ (x : OpenRequest). x.number < after_next) rs
below_later rs next after_next more all = all_weaker (λ (x : OpenRequest). x.number < next) (λ (x : OpenRequest). x.number < after_next) rs
    (λ x low. omega (arith, low, more)) all

-- the same requests
rising_later : (rs : List OpenRequest) (next after_next : ℕ) → next ≤ after_next → IsRising rs next → IsRising rs after_next
rising_later rs next after_next more h = record { rising = h.rising; below = below_later rs next after_next more h.below }

-- with one in place of the one of its number
replaced_rising : (new : OpenRequest) (rs : List OpenRequest) (next after_next : ℕ) → next ≤ after_next → IsRising rs next → IsRising (replaced new rs) after_next
replaced_rising new rs next after_next more h =
    record {
      rising = rising_replaced new rs h.rising;
      below = below_later (replaced new rs) next after_next more (keeps_numbers (λ number. number < next) new rs h.below);
    }

-- after a move
move_rising : (server : Server) (now : ℕ) (requests : List OpenRequest) (next : ℕ) (after : List OpenRequest) (after_next : ℕ) (finals : List FinalAnswer)
    → IsMove server now requests next after after_next finals
    → IsRising requests next → IsRising after after_next
move_rising server now requests next after after_next finals (Stays e more up) h = subst (λ rs. IsRising rs after_next) (sym e)
    (rising_later requests next after_next more h)
move_rising server now requests next after after_next finals (TurnsAway a m r opening number more e) h =
    subst (λ rs. IsRising rs after_next) (sym e) (rising_later requests next after_next (omega arith) h)
move_rising server now requests next after after_next finals (Opens a m r opening at number more is_new e) h =
    let is : r.number ≡ next = opening_number server a m r finals opening ∙ number in
    let low : r.number < after_next = omega (arith, is, more) in
    subst (λ rs. IsRising rs after_next) (sym e) (record {
      rising = rising_push requests r next h.rising h.below is;
      below = all_push (λ (x : OpenRequest). x.number < after_next) requests r (below_later requests next after_next (omega arith) h.below) low;
    })
move_rising server now requests next after after_next finals (Changes r change there is more e up) h =
    subst (λ rs. IsRising rs after_next) (sym e) (replaced_rising change.request requests next after_next more h)
move_rising server now requests next after after_next finals (Resends r packets later there goes more e up) h =
    subst (λ rs. IsRising rs after_next) (sym e) (replaced_rising later requests next after_next more h)
move_rising server now requests next after after_next finals (Acknowledges r there more e up) h =
    subst (λ rs. IsRising rs after_next) (sym e) (replaced_rising (acknowledged now r) requests next after_next more h)

-- in each state of a history
pub chain_rising : (server : Server) (first : ℕ) (history : List Link) (last : ProxyState) → IsChain server (first_state first) history last
    → IsRising last.requests last.next
chain_rising server first [] last h = subst (λ (s : ProxyState). IsRising s.requests s.next) (sym h) (record { rising = tt; below = tt })
chain_rising server first (link ∷ history) last h =
    let taken = step_taken (under server link.config) link.before link.act link.out link.after h.1 in
    subst (λ (s : ProxyState). IsRising s.requests s.next) (sym h.0)
    (kept_by_moves (under server link.config) (stands_at link.before link.act link.out) IsRising
    (λ requests next after after_next finals. move_rising (under server link.config) (stands_at link.before link.act link.out) requests next after after_next finals)
    link.before.requests link.before.next link.after.requests link.after.next _ taken.moves (chain_rising server first history link.before h.2))
