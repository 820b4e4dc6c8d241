-- The open request, and its branch, that a branch text names, by their places.
use Rattle.std.proofs.Common.{◌≡◌, ℕ, ◌<◌, ◌≤◌, zero, suc, Bool, true, false, cond, List, [], ◌∷◌, length, get_or, slice_get, position, Option, Some, None, refl, sym}
use Rattle.std.proofs.Common.{◌∙◌, ap, subst, arith, eqb, nat_lt}
use Rattle.std.specs.Prelude.{count_by, find}
use Rattle.std.specs.List.{All, AllPairs, AllByRecursion, position_or_len}
use Rattle.std.specs.Option.{option_and_then, option_map}
use Rattle.std.proofs.lemmas.Bool.Decides.{nat_tests}
use Rattle.std.proofs.lemmas.List.Elements.{All-head, All-tail}
use Rattle.std.proofs.lemmas.List.Folds.{find_at}
use Rattle.std.proofs.lemmas.Option.{slice_get_past, slice_get-get_or}
use Rattle.sip_dialog_updates.specs.state.declared.branch.Branch.{Branch}
use Rattle.sip_dialog_updates.specs.state.declared.open_request.OpenRequest.{OpenRequest}
use Rattle.sip_edit.specs.BranchId.{branch_id_of}
use Rattle.sip_edit.specs.declared.branch_id.BranchId.{BranchId}
use Rattle.sip_dialog_updates.specs.state.declared.server.Server.{Server}
use Rattle.model_steps.specs.context_model.BranchById.{is_of_datagram, is_sent, sent_in, branch_by_id, HasNumbers}
use Rattle.model_steps.specs.context_model.FoundBranch.{found_branch}
use Rattle.sip_request.specs.declared.request.Request.{Request}
use Rattle.sip_fork.specs.Contexts.{IsKept}
use Rattle.sip_fork.specs.Places.{branch_at}
use Rattle.sip_fork.proofs.Tying.{contexts}
use Rattle.sip_timers.proofs.Counting.{count-cons}

-- ---- what open requests have

-- no number is that of two
none_greater : (number : ℕ) (rs : List OpenRequest) → All (λ (r : OpenRequest). number < r.number) rs → count_by (is_of_datagram number) rs ≡ 0
none_greater number [] all = refl
none_greater number (r ∷ rs) all =
    let above : number < r.number = All-head (λ (x : OpenRequest). number < x.number) r rs all in
    let differs : eqb r.number number ≡ false = grind (arith, nat_tests, above) in
    let none : cond {A = ℕ} (eqb r.number number) 1 0 ≡ 0 = ap (λ (b : Bool). cond {A = ℕ} b 1 0) differs in
    omega (arith, none, none_greater number rs (All-tail (λ (x : OpenRequest). number < x.number) r rs all), count-cons (is_of_datagram number) r rs)

tail_pairs : (r : OpenRequest) (rs : List OpenRequest) → AllPairs (λ (a b : OpenRequest). a.number < b.number) (r ∷ rs)
    → AllPairs (λ (a b : OpenRequest). a.number < b.number) rs
tail_pairs r rs rise i j d lt inside = rise (suc i) (suc j) d (omega (arith, lt)) (omega (arith, inside))

pub one_number : (rs : List OpenRequest) → AllPairs (λ (a b : OpenRequest). a.number < b.number) rs → (number : ℕ) → count_by (is_of_datagram number) rs ≤ 1
one_number [] rise number = omega arith
one_number (r ∷ rs) rise number = by_test (eqb r.number number) refl (one_number rs (tail_pairs r rs rise) number) where
  above : All (λ (x : OpenRequest). r.number < x.number) rs
  above j d inside = rise zero (suc j) d (omega arith) (omega (arith, inside))

  by_test : (b : Bool) → eqb r.number number ≡ b → count_by (is_of_datagram number) rs ≤ 1 → count_by (is_of_datagram number) (r ∷ rs) ≤ 1
  by_test true is rest =
      let same : r.number ≡ number = grind (arith, nat_tests, is) in
      let none : count_by (is_of_datagram number) rs ≡ 0 = subst (λ (n : ℕ). count_by (is_of_datagram n) rs ≡ 0) same (none_greater r.number rs above) in
      let one : cond {A = ℕ} (eqb r.number number) 1 0 ≡ 1 = ap (λ (b : Bool). cond {A = ℕ} b 1 0) is in
      omega (arith, none, one, count-cons (is_of_datagram number) r rs)
  by_test false is rest =
      let one : cond {A = ℕ} (eqb r.number number) 1 0 ≡ 0 = ap (λ (b : Bool). cond {A = ℕ} b 1 0) is in
      omega (arith, one, rest, count-cons (is_of_datagram number) r rs)

-- their numbers are of their types
pub have_numbers : (reached : ℕ) (rows : List Request) → All (IsKept reached) rows → AllByRecursion HasNumbers (contexts rows)
have_numbers reached [] kept = tt
have_numbers reached (r ∷ rows) kept = (
  let k : IsKept reached r = All-head (IsKept reached) r rows kept in
      k.numbers,
  have_numbers reached rows (All-tail (IsKept reached) r rows kept),
)

-- ---- places

-- what stands at the place that is found is what is found
pub found_at : {X : Type 0} (test : X → Bool) (xs : List X) → option_and_then (slice_get xs) (position test xs) ≡ find test xs
found_at test xs = by_test (nat_lt (position_or_len test xs) (length xs)) refl ∙ sym (find_at test xs) where
  by_test : (b : Bool) → nat_lt (position_or_len test xs) (length xs) ≡ b → option_and_then (slice_get xs) (cond b (Some (position_or_len test xs)) None)
      ≡ slice_get xs (position_or_len test xs)
  by_test true is = refl
  by_test false is = let past : length xs ≤ position_or_len test xs = grind (arith, nat_tests, is) in sym (slice_get_past xs (position_or_len test xs) past)

-- something stands there
stands_at : {X : Type 0} (test : X → Bool) (xs : List X) (i : ℕ) → position test xs ≡ Some i → (x : X) × (slice_get xs i ≡ Some x)
stands_at {X = X} test xs i found = by_test (nat_lt (position_or_len test xs) (length xs)) refl found where
  inside : (ys : List X) (k : ℕ) → k < length ys → (x : X) × (slice_get ys k ≡ Some x)
  inside [] k lt = absurd (omega (arith, lt))
  inside (y ∷ ys) k lt = (get_or (y ∷ ys) k y, slice_get-get_or (y ∷ ys) k y lt)

  by_test : (b : Bool) → nat_lt (position_or_len test xs) (length xs) ≡ b → cond b (Some (position_or_len test xs)) None ≡ Some i → (x : X) × (slice_get xs i ≡ Some x)
  by_test true is e =
      let same : position_or_len test xs ≡ i = cc in
      let lt : position_or_len test xs < length xs = grind (arith, nat_tests, is) in
      inside xs i (subst (λ (k : ℕ). k < length xs) same lt)
  by_test false is e = absurd (cc)

-- ---- the branch

module _ (server : Server) (text method : List ℕ) (requests : List OpenRequest) (same : found_branch server text method requests
    ≡ branch_by_id server text method requests) where
  -- what stands at these places is what is found
  abbrev AreFound : Option (ℕ × ℕ) → Type 0
  AreFound places = option_map (branch_at requests) places ≡ option_map (λ (found : OpenRequest × Branch). Some found) (found_branch server text method requests)

  nothing : branch_by_id server text method requests ≡ None → AreFound None
  nothing none = sym (ap (option_map (λ (found : OpenRequest × Branch). Some found)) (same ∙ none))

  -- the text names no branch
  pub not_named : None ≡ branch_id_of server.word text → AreFound None
  not_named none = nothing (ap (λ (o : Option BranchId). option_and_then (λ (id : BranchId).
      option_and_then (sent_in id.target method) (find (is_of_datagram id.number) requests)) o) (sym none))

  module _ (id : BranchId) (named : Some id ≡ branch_id_of server.word text) where
    by_id : branch_by_id server text method requests ≡ option_and_then (sent_in id.target method) (find (is_of_datagram id.number) requests)
    by_id = ap (λ (o : Option BranchId). option_and_then (λ (id : BranchId). option_and_then (sent_in id.target method) (find (is_of_datagram id.number) requests)) o)
        (sym named)

    -- no request has the number
    pub no_request : None ≡ find (is_of_datagram id.number) requests → AreFound None
    no_request none = nothing (by_id ∙ ap (option_and_then (sent_in id.target method)) (sym none))

    module _ (r : OpenRequest) (place : ℕ) (there : slice_get requests place ≡ Some r) (first : slice_get requests place ≡ find (is_of_datagram id.number) requests) where
      this_one : branch_by_id server text method requests ≡ sent_in id.target method r
      this_one = by_id ∙ ap (option_and_then (sent_in id.target method)) (sym first ∙ there)

      -- it has no such branch
      pub no_branch : None ≡ position (is_sent id.target method r) r.branches → AreFound None
      no_branch none =
          nothing (this_one ∙ ap (option_map (λ (b : Branch). (r, b))) (sym (found_at (is_sent id.target method r) r.branches)
          ∙ ap (option_and_then (slice_get r.branches)) (sym none)))

      -- the branch at a place is the first such one
      pub this_branch : (at : ℕ) → Some at ≡ position (is_sent id.target method r) r.branches → AreFound (Some (place, at))
      this_branch at found =
          let stands = stands_at (is_sent id.target method r) r.branches at (sym found) in
          let sent : find (is_sent id.target method r) r.branches ≡ Some stands.0 = sym (found_at (is_sent id.target method r) r.branches)
          ∙ ap (option_and_then (slice_get r.branches)) (sym found) ∙ stands.1 in
          let is : found_branch server text method requests ≡ Some (r, stands.0) = same ∙ this_one ∙ ap (option_map (λ (b : Branch). (r, b))) sent in
          let here : branch_at requests (place, at) ≡ Some (r, stands.0) =
          ap (option_and_then (λ (x : OpenRequest). option_map (λ (b : Branch). (x, b)) (slice_get x.branches at))) there
          ∙ ap (option_map (λ (b : Branch). (r, b))) stands.1 in
          ap (λ (o : Option (OpenRequest × Branch)). Some o) here ∙ sym (ap (option_map (λ (found : OpenRequest × Branch). Some found)) is)
