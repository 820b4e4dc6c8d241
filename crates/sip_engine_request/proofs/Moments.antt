-- The next moment of open requests.
use Rattle.std.proofs.Common.{◌≡◌, ℕ, ◌+◌, ◌<◌, ◌≤◌, ◌⊎◌, inl, inr, List, slice_get, Contains, Some, arith}
use Rattle.std.specs.List.{filter_map}
use Rattle.std.specs.Option.{option_to_list}
use Rattle.std.proofs.lemmas.List.Elements.{Contains-append_left, Contains-append_right}
use Rattle.sip_proxy.specs.fork.Due.{IsDue, IsFirst, IsNothingDue}
use Rattle.sip_proxy.specs.fork.declared.first_due.Due.{Due}
use Rattle.sip_proxy.specs.fork.declared.first_due.Due.TheVariants as What
use Rattle.sip_proxy.specs.fork.declared.first_due.FirstDue.{FirstDue}
use Rattle.sip_proxy.specs.steps_model.Step.{NoneAgainBefore, NoneAgainBy, NoneBefore, NoneBy}
use Rattle.sip_proxy.specs.context_model.Retransmission.{answer_due, branch_due, resends, resends_of}
use Rattle.sip_dialog_updates.specs.state.State.{deadlines, deadlines_of, phase_deadline, side_deadline}
use Rattle.sip_dialog_updates.specs.state.declared.branch.Branch.{Branch}
use Rattle.sip_dialog_updates.specs.state.declared.open_request.OpenRequest.{OpenRequest}
use Rattle.sip_engine_request.specs.Next.{IsNext}
use Rattle.sip_engine_request.proofs.Lists.{all_contains, all_weaker, at_place, in_filter_map, in_flat_map, in_option}

-- ---- what is due first

-- what is due of a request is one of its moments
due_of : (r : OpenRequest) (due : ℕ) (what : Due) → IsDue r due what → Contains (deadlines_of r) due ⊎ Contains (resends_of r) due
due_of r due What.AnswerAgain is = inr (Contains-append_left (option_to_list (answer_due r)) (filter_map (branch_due r) r.branches) due (in_option (answer_due r) due is))
due_of r due What.AnswerEnds is =
    inl (Contains-append_left (option_to_list (side_deadline r.side)) (filter_map (λ (b : Branch). phase_deadline b.phase) r.branches) due
    (in_option (side_deadline r.side) due is))
due_of r due (What.BranchAgain place) is =
    let found : (b : Branch) × (slice_get r.branches place ≡ Some b) = at_place r.branches place is.within in
    inr
    (Contains-append_right (option_to_list (answer_due r)) (filter_map (branch_due r) r.branches) due
    (in_filter_map (branch_due r) r.branches place found.0 due found.1 (is.is found.0 found.1)))
due_of r due (What.BranchEnds place) is =
    let found : (b : Branch) × (slice_get r.branches place ≡ Some b) = at_place r.branches place is.within in
    inl
    (Contains-append_right (option_to_list (side_deadline r.side)) (filter_map (λ (b : Branch). phase_deadline b.phase) r.branches) due
    (in_filter_map (λ (b : Branch). phase_deadline b.phase) r.branches place found.0 due found.1 (is.is found.0 found.1)))

pub first_is_next : (requests : List OpenRequest) (first : FirstDue) → IsFirst requests first → IsNext requests first.due
first_is_next requests first f =
    record { is_due = of_all (due_of found.0 first.due first.what (f.due found.0 found.1)); none_before = f.none_before; none_again = f.none_again } where
      found : (r : OpenRequest) × (slice_get requests first.place ≡ Some r)
      found = at_place requests first.place f.within

      of_all : Contains (deadlines_of found.0) first.due ⊎ Contains (resends_of found.0) first.due
          → Contains (deadlines requests) first.due ⊎ Contains (resends requests) first.due
      of_all (inl there) = inl (in_flat_map deadlines_of requests first.place found.0 first.due found.1 there)
      of_all (inr there) = inr (in_flat_map resends_of requests first.place found.0 first.due found.1 there)

-- ---- what is due by a moment

module _ (requests : List OpenRequest) where
  pub before : (due moment : ℕ) → IsNext requests due → moment < due → NoneBy moment requests
  before due moment next lt = all_weaker (λ (d : ℕ). due ≤ d) (λ (d : ℕ). moment < d) (λ d le. omega (arith, lt, le)) (deadlines requests) next.none_before

  pub before_again : (due moment : ℕ) → IsNext requests due → moment < due → NoneAgainBy moment requests
  before_again due moment next lt = all_weaker (λ (d : ℕ). due ≤ d) (λ (d : ℕ). moment < d) (λ d le. omega (arith, lt, le)) (resends requests) next.none_again

  pub never : (moment : ℕ) → IsNothingDue requests → NoneBy moment requests
  never moment nothing = all_weaker (λ (d : ℕ). moment + 1 ≤ d) (λ (d : ℕ). moment < d) (λ d le. omega (arith, le)) (deadlines requests) (nothing.none (moment + 1))

  pub never_again : (moment : ℕ) → IsNothingDue requests → NoneAgainBy moment requests
  never_again moment nothing = all_weaker (λ (d : ℕ). moment + 1 ≤ d) (λ (d : ℕ). moment < d) (λ d le. omega (arith, le)) (resends requests)
      (nothing.none_again (moment + 1))

  -- nothing stands before a moment by which nothing is due
  pub none_before : (moment : ℕ) → NoneBy moment requests → NoneBefore moment requests
  none_before moment none = all_weaker (λ (d : ℕ). moment < d) (λ (d : ℕ). moment ≤ d) (λ d lt. omega (arith, lt)) (deadlines requests) none

  pub none_again_before : (moment : ℕ) → NoneAgainBy moment requests → NoneAgainBefore moment requests
  none_again_before moment none = all_weaker (λ (d : ℕ). moment < d) (λ (d : ℕ). moment ≤ d) (λ d lt. omega (arith, lt)) (resends requests) none

  -- the next moment is none before which nothing stands
  pub no_earlier : (moment due : ℕ) → NoneBefore moment requests → NoneAgainBefore moment requests → IsNext requests due → moment ≤ due
  no_earlier moment due none again next = by_kind next.is_due where
    by_kind : Contains (deadlines requests) due ⊎ Contains (resends requests) due → moment ≤ due
    by_kind (inl there) = all_contains (λ (d : ℕ). moment ≤ d) (deadlines requests) due none there
    by_kind (inr there) = all_contains (λ (d : ℕ). moment ≤ d) (resends requests) due again there

  pub from_then : (due moment : ℕ) → IsNext requests due → due ≤ moment → NoneBy moment requests → NoneAgainBy moment requests → ⊥
  from_then due moment next le none again = by_kind next.is_due where
    by_kind : Contains (deadlines requests) due ⊎ Contains (resends requests) due → ⊥
    by_kind (inl there) = let late : moment < due = all_contains (λ (d : ℕ). moment < d) (deadlines requests) due none there in omega (arith, late, le)
    by_kind (inr there) = let late : moment < due = all_contains (λ (d : ℕ). moment < d) (resends requests) due again there in omega (arith, late, le)

  -- there is one next moment
  pub one_next : (left right : ℕ) → IsNext requests left → IsNext requests right → left ≡ right
  one_next left right l r =
      let a : left ≤ right = no_earlier left right l.none_before l.none_again r in
      let b : right ≤ left = no_earlier right left r.none_before r.none_again l in
      omega (arith, a, b)
