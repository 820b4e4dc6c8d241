-- Open requests and branches by the places at which they were found.
use Rattle.std.proofs.Common.{◌≡◌, ℕ, ◌<◌, Bool, true, false, cond, List, [], ◌∷◌, length, get_or, slice_get, position, Option, Some, None, refl, subst, arith, nat_lt}
use Rattle.std.specs.List.{position_or_len}
use Rattle.std.specs.Option.{option_map}
use Rattle.std.proofs.lemmas.Bool.Decides.{nat_tests}
use Rattle.std.proofs.lemmas.Option.{slice_get-get_or}
use Rattle.sip_engine_request.specs.fork.Places.{branch_at}
use Rattle.sip_verdict.specs.state.declared.branch.Branch.{Branch}
use Rattle.sip_verdict.specs.state.declared.open_request.OpenRequest.{OpenRequest}

-- ---- requests

-- a place that was found is one of the list
pub position_within : {X : Type 0} (test : X → Bool) (xs : List X) (i : ℕ) → position test xs ≡ Some i → i < length xs
position_within test xs i found = by_test (nat_lt (position_or_len test xs) (length xs)) refl found where
  by_test : (b : Bool) → nat_lt (position_or_len test xs) (length xs) ≡ b → cond b (Some (position_or_len test xs)) None ≡ Some i → i < length xs
  by_test true is e =
      let same : position_or_len test xs ≡ i = cc in
      let lt : position_or_len test xs < length xs = grind (arith, nat_tests, is) in
      subst (λ (k : ℕ). k < length xs) same lt
  by_test false is e = absurd (cc)

-- something stands at a place of a list
pub stands_at : {X : Type 0} (xs : List X) (i : ℕ) → i < length xs → (x : X) × (slice_get xs i ≡ Some x)
stands_at [] i lt = absurd (omega (arith, lt))
stands_at (x ∷ xs) i lt = (get_or (x ∷ xs) i x, slice_get-get_or (x ∷ xs) i x lt)

-- ---- branches

pub lost : (requests : List OpenRequest) (o : Option (OpenRequest × Branch))
    → option_map (branch_at requests) None ≡ option_map (λ (found : OpenRequest × Branch). Some found) o → o ≡ None
lost requests None same = refl
lost requests (Some found) same = absurd (cc)

pub found_at : (requests : List OpenRequest) (o : Option (OpenRequest × Branch)) (places : ℕ × ℕ)
    → option_map (branch_at requests) (Some places) ≡ option_map (λ (found : OpenRequest × Branch). Some found) o
    → (found : OpenRequest × Branch) × ((o ≡ Some found) × (branch_at requests places ≡ Some found))
found_at requests None places same = absurd (cc)
found_at requests (Some found) places same = (found, (refl, (let same_found : branch_at requests places ≡ Some found = cc in same_found)))
