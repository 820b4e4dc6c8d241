-- A request that is opened stands behind all others.
use Rattle.std.proofs.Common.{◌≡◌, Bool, true, false, cond, List, [], ◌∷◌, find, ap, Some, None}
use Rattle.sip_state.specs.declared.open_request.OpenRequest.{OpenRequest}
use Rattle.sip_state.specs.State.{with_one_more}

-- who was found first is
pub earlier_found : (test : OpenRequest → Bool) (requests : List OpenRequest) (first r : OpenRequest) → find test requests ≡ Some first
    → find test (with_one_more r requests) ≡ Some first
earlier_found test [] first r e = absurd (cc)
earlier_found test (x ∷ xs) first r e = by_test (test x) (earlier_found test xs first r) e where
  by_test : (t : Bool) → (find test xs ≡ Some first → find test (with_one_more r xs) ≡ Some first) → cond t (Some x) (find test xs) ≡ Some first
      → cond t (Some x) (find test (with_one_more r xs)) ≡ Some first
  by_test true later found = found
  by_test false later found = later found

-- where none was, the new one is
pub new_found : (test : OpenRequest → Bool) (requests : List OpenRequest) (r : OpenRequest) → find test requests ≡ None → test r ≡ true
    → find test (with_one_more r requests) ≡ Some r
new_found test [] r e passes = ap (λ (t : Bool). cond t (Some r) None) passes
new_found test (x ∷ xs) r e passes = by_test (test x) (λ none. new_found test xs r none passes) e where
  by_test : (t : Bool) → (find test xs ≡ None → find test (with_one_more r xs) ≡ Some r) → cond t (Some x) (find test xs) ≡ None
      → cond t (Some x) (find test (with_one_more r xs)) ≡ Some r
  by_test true later none = absurd (cc)
  by_test false later none = later none
