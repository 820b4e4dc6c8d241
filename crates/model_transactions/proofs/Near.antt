-- What is near a moment, and what follows.
use Rattle.std.proofs.Common.{◌≡◌, ℕ, ◌+◌, ◌<◌, ◌≤◌, ◌^◌, Bool, true, false, cond, Some, None, IfSome, arith, option_to_list, filter_map, is_some}
use Rattle.std.specs.List.{AllByRecursion}
use Rattle.sip_targets.specs.declared.target.Target.{Target}
use Rattle.sip_context_branches.specs.state.State.{phase_deadline, side_deadline, deadlines_of}
use Rattle.sip_context_branches.specs.state.declared.branch.Branch.{Branch}
use Rattle.sip_context_branches.specs.state.declared.branch.Phase.{Phase}
use Rattle.sip_context_branches.specs.state.declared.branch.Phase.TheVariants.{Unheard, Heard, Cancelled, Done, Ended}
use Rattle.sip_context_branches.specs.state.declared.open_request.OpenRequest.{OpenRequest}
use Rattle.sip_context_branches.specs.state.declared.open_request.Side.{Side}
use Rattle.sip_context_branches.specs.state.declared.open_request.Side.TheVariants.{Answering, Closing, Acknowledged, Closed}
use Rattle.sip_context_branches.specs.context_model.Opening.{branch_to}
use Rattle.sip_context_branches.specs.context_model.Retransmission.{resends_of, insists, answer_due, goes_again, branch_due}
use Rattle.sip_context_branches.specs.Early.{IsEarly}
use Rattle.model_transactions.specs.Near.{IsNear, IsPhaseNear, IsSideNear, IsBranchWithin, IsWithin}
use Rattle.model_transactions.proofs.Lists.{all_append, all_given, all_weaker}

-- ---- later

near_later : (bound later due : ℕ) → bound ≤ later → due ≤ bound + 185000 → due ≤ later + 185000
near_later bound later due h e = omega arith

phase_later : (bound later : ℕ) (phase : Phase) → bound ≤ later → IsPhaseNear bound phase → IsPhaseNear later phase
phase_later bound later (Unheard due) h e = near_later bound later (due + 153000) h e
phase_later bound later (Heard due) h e = near_later bound later due h e
phase_later bound later (Cancelled due) h e = near_later bound later due h e
phase_later bound later (Done due status) h e = near_later bound later due h e
phase_later bound later Ended h e = tt

side_later : (bound later : ℕ) (side : Side) → bound ≤ later → IsSideNear bound side → IsSideNear later side
side_later bound later Answering h e = tt
side_later bound later (Closing due) h e = near_later bound later due h e
side_later bound later (Acknowledged due) h e = near_later bound later due h e
side_later bound later Closed h e = tt

pub branch_later : (bound later : ℕ) (b : Branch) → bound ≤ later → IsBranchWithin bound b → IsBranchWithin later b
branch_later bound later b h w = record { phase_near = phase_later bound later b.phase h w.phase_near; again_near = near_later bound later b.again.due h w.again_near }

pub request_later : (bound later : ℕ) (r : OpenRequest) → bound ≤ later → IsWithin bound r → IsWithin later r
request_later bound later r h w =
    record {
      side_near = side_later bound later r.side h w.side_near;
      again_near = near_later bound later r.again.due h w.again_near;
      branches_within = all_weaker (IsBranchWithin bound) (IsBranchWithin later) (λ b. branch_later bound later b h) r.branches w.branches_within;
    }

-- ---- deadlines, and what goes again

-- 153,000 ms before a near moment is near
pub near_earlier : (bound due : ℕ) → due + 153000 ≤ bound + 185000 → due ≤ bound + 185000
near_earlier bound due e = omega arith

phase_moment : (bound : ℕ) (phase : Phase) → IsPhaseNear bound phase → IfSome (phase_deadline phase) (IsNear bound)
phase_moment bound (Unheard due) e = near_earlier bound due e
phase_moment bound (Heard due) e = e
phase_moment bound (Cancelled due) e = e
phase_moment bound (Done due status) e = e
phase_moment bound Ended e = tt

side_moments : (bound : ℕ) (side : Side) → IsSideNear bound side → AllByRecursion (IsNear bound) (option_to_list (side_deadline side))
side_moments bound Answering e = tt
side_moments bound (Closing due) e = (e, tt)
side_moments bound (Acknowledged due) e = (e, tt)
side_moments bound Closed e = tt

pub deadlines_near : (bound : ℕ) (r : OpenRequest) → IsWithin bound r → AllByRecursion (IsNear bound) (deadlines_of r)
deadlines_near bound r w =
    all_append (IsNear bound) (option_to_list (side_deadline r.side)) (filter_map (λ (b : Branch). phase_deadline b.phase) r.branches)
    (side_moments bound r.side w.side_near)
    (all_given (IsNear bound) (λ (b : Branch). phase_deadline b.phase) r.branches
    (all_weaker (IsBranchWithin bound) (λ (b : Branch). IfSome (phase_deadline b.phase) (IsNear bound)) (λ b h. phase_moment bound b.phase h.phase_near) r.branches
    w.branches_within))

-- a near moment, if it counts
if_near : (bound due : ℕ) (t : Bool) → IsNear bound due → IfSome (cond t (Some due) None) (IsNear bound)
if_near bound due true e = e
if_near bound due false e = tt

listed_near : (bound due : ℕ) (t : Bool) → IsNear bound due → AllByRecursion (IsNear bound) (option_to_list (cond t (Some due) None))
listed_near bound due true e = (e, tt)
listed_near bound due false e = tt

pub resends_near : (bound : ℕ) (r : OpenRequest) → IsWithin bound r → AllByRecursion (IsNear bound) (resends_of r)
resends_near bound r w =
    all_append (IsNear bound) (option_to_list (answer_due r)) (filter_map (branch_due r) r.branches) (listed_near bound r.again.due (insists r) w.again_near)
    (all_given (IsNear bound) (branch_due r) r.branches
    (all_weaker (IsBranchWithin bound) (λ (b : Branch). IfSome (branch_due r b) (IsNear bound)) (λ b h. if_near bound b.again.due (goes_again r b) h.again_near)
    r.branches w.branches_within))

-- ---- room

room_after : (bound due : ℕ) → bound < 2 ^ 62 → due + 153000 ≤ bound + 185000 → due + 153000 < 2 ^ 64
room_after bound due h e = omega arith

pub phase_early : (bound : ℕ) (phase : Phase) → bound < 2 ^ 62 → IsPhaseNear bound phase → IsEarly phase
phase_early bound (Unheard due) h e = room_after bound due h e
phase_early bound (Heard due) h e = tt
phase_early bound (Cancelled due) h e = tt
phase_early bound (Done due status) h e = tt
phase_early bound Ended h e = tt

-- ---- no less

exact : (bound now : ℕ) → now + 32000 + 153000 ≤ bound + 185000 → now ≤ bound
exact bound now e = omega arith

pub no_less : (bound now number : ℕ) (t : Target) → is_some t.address ≡ true → IsBranchWithin bound (branch_to now number t) → now ≤ bound
no_less bound now number t sent w = by_test (is_some t.address) sent w.phase_near where
  by_test : (u : Bool) → u ≡ true → IsPhaseNear bound (cond u (Unheard (now + 32000)) Ended) → now ≤ bound
  by_test true is e = exact bound now e
  by_test false is e = absurd (cc)
