-- By when each part of an waits request has ended.
use Rattle.std.proofs.Common.{◌≡◌, ℕ, ◌+◌, ◌≤◌, Bool, true, false, cond, ◌==◌, Option, Some, None, IfSome, refl, arith}
use Rattle.std.specs.List.{AllByRecursion}
use Rattle.model_steps.specs.state.declared.branch.Phase.{Phase}
use Rattle.model_steps.specs.state.declared.branch.Phase.TheVariants.{Unheard, Heard, Cancelled, Done, Ended}
use Rattle.model_steps.specs.state.declared.branch.Branch.{Branch}
use Rattle.model_steps.specs.state.declared.open_request.Side.{Side}
use Rattle.model_steps.specs.state.declared.open_request.Side.TheVariants.{Answering, Closing, Acknowledged, Closed}
use Rattle.model_steps.specs.state.declared.open_request.OpenRequest.{OpenRequest}
use Rattle.model_steps.specs.state.State.{is_final, phase_deadline, side_deadline, deadlines_of}
use Rattle.model_steps.specs.context_model.Branches.{is_ready, invite_heard, other_heard}
use Rattle.sip_model.proofs.EndingLists.{all_option, all_filter_map}
use Rattle.sip_model.proofs.Lists.{all_weaker, all_append}

-- ---- the times

-- how long a branch to a target may take for its final answer
abbrev pub waiting_time : Bool → ℕ
waiting_time invite = cond invite 217000 32000

-- how long a branch may be in its phase, by whether its request is an INVITE, and whether it is a CANCEL
abbrev pub phase_time : Bool → Bool → Phase → ℕ
phase_time invite cancel (Unheard due) = cond cancel 217000 32000
phase_time invite cancel (Heard due) = cond cancel 217000 (cond invite 185000 32000)
phase_time invite cancel (Cancelled due) = cond cancel 217000 (waiting_time invite)
phase_time invite cancel (Done due status) = cond cancel 222000 (cond invite 249000 37000)
phase_time invite cancel Ended = 0

-- how long the answering side may be open
abbrev pub side_time : Bool → Side → ℕ
side_time invite Answering = 0
side_time invite (Closing due) = cond invite 249000 64000
side_time invite (Acknowledged due) = cond invite 254000 64000
side_time invite Closed = 0

-- how long a request may be
abbrev pub whole_time : Bool → ℕ
whole_time invite = cond invite 254000 64000

-- a deadline that stands is no later than a moment
abbrev pub IsBy : ℕ → Option ℕ → Type 0
IsBy limit o = IfSome o (λ due. due ≤ limit)

-- one that stands is no earlier
abbrev pub IsFrom : ℕ → Option ℕ → Type 0
IsFrom floor o = IfSome o (λ due. floor ≤ due)

-- A branch ends in time, counted from a moment; and no branch of a request that is no INVITE is a CANCEL, or is to be cancelled.
pub record IsOnTime (invite : Bool) (origin : ℕ) (b : Branch) : Type 0 where
  pub ends : IsBy (origin + phase_time invite b.is_cancel b.phase) (phase_deadline b.phase)
  pub cancels_nothing : invite ≡ false → (b.is_cancel ≡ false) × (b.wants_cancel ≡ false)

-- an waits request does
pub record IsInTime (invite : Bool) (origin : ℕ) (r : OpenRequest) : Type 0 where
  pub branches : AllByRecursion (IsOnTime invite origin) r.branches
  pub side : IsBy (origin + side_time invite r.side) (side_deadline r.side)

-- ---- from a later moment on

-- what is in time by a moment is so by a later one
later_by : (earlier later time : ℕ) → earlier ≤ later → (o : Option ℕ) → IsBy (earlier + time) o → IsBy (later + time) o
later_by earlier later time le None h = tt
later_by earlier later time le (Some due) h = omega arith

-- so is a branch
branch_later : (invite : Bool) (earlier later : ℕ) → earlier ≤ later → (b : Branch) → IsOnTime invite earlier b → IsOnTime invite later b
branch_later invite earlier later le b h = record {
  ends = later_by earlier later (phase_time invite b.is_cancel b.phase) le (phase_deadline b.phase) h.ends;
  cancels_nothing = h.cancels_nothing;
}

-- and a request
pub request_later : (invite : Bool) (earlier later : ℕ) → earlier ≤ later → (r : OpenRequest) → IsInTime invite earlier r → IsInTime invite later r
request_later invite earlier later le r h = record {
  branches = all_weaker (IsOnTime invite earlier) (IsOnTime invite later) (branch_later invite earlier later le) r.branches h.branches;
  side = later_by earlier later (side_time invite r.side) le (side_deadline r.side) h.side;
}

-- ---- all deadlines of a request

-- no phase lasts longer than the whole
phase_within : (invite cancel : Bool) (phase : Phase) → (invite ≡ false → cancel ≡ false) → phase_time invite cancel phase ≤ whole_time invite
phase_within true true (Unheard due) plain = omega arith
phase_within true true (Heard due) plain = omega arith
phase_within true true (Cancelled due) plain = omega arith
phase_within true true (Done due status) plain = omega arith
phase_within true true Ended plain = omega arith
phase_within true false (Unheard due) plain = omega arith
phase_within true false (Heard due) plain = omega arith
phase_within true false (Cancelled due) plain = omega arith
phase_within true false (Done due status) plain = omega arith
phase_within true false Ended plain = omega arith
phase_within false true phase plain = absurd (cc (plain refl))
phase_within false false (Unheard due) plain = omega arith
phase_within false false (Heard due) plain = omega arith
phase_within false false (Cancelled due) plain = omega arith
phase_within false false (Done due status) plain = omega arith
phase_within false false Ended plain = omega arith

-- nor does the side
side_within : (invite : Bool) (side : Side) → side_time invite side ≤ whole_time invite
side_within true Answering = omega arith
side_within true (Closing due) = omega arith
side_within true (Acknowledged due) = omega arith
side_within true Closed = omega arith
side_within false Answering = omega arith
side_within false (Closing due) = omega arith
side_within false (Acknowledged due) = omega arith
side_within false Closed = omega arith

-- what is in time is so for a longer one
longer_by : (origin shorter longer : ℕ) → shorter ≤ longer → (o : Option ℕ) → IsBy (origin + shorter) o → IfSome o (λ due. due ≤ origin + longer)
longer_by origin shorter longer le None h = tt
longer_by origin shorter longer le (Some due) h = omega arith

-- each deadline of a request that is in time
pub deadlines_in_time : (invite : Bool) (origin : ℕ) (r : OpenRequest) → IsInTime invite origin r
    → AllByRecursion (λ (due : ℕ). due ≤ origin + whole_time invite) (deadlines_of r)
deadlines_in_time invite origin r h =
    all_append (λ (due : ℕ). due ≤ origin + whole_time invite) _ _
    (all_option _ (side_deadline r.side) (longer_by origin (side_time invite r.side) (whole_time invite) (side_within invite r.side) (side_deadline r.side) h.side))
    (all_filter_map _ (λ (b : Branch). phase_deadline b.phase) r.branches
    (all_weaker (IsOnTime invite origin) (λ (b : Branch). IfSome (phase_deadline b.phase) (λ due. due ≤ origin + whole_time invite))
    (λ b on. longer_by origin (phase_time invite b.is_cancel b.phase) (whole_time invite) (phase_within invite b.is_cancel b.phase (λ e. (on.cancels_nothing e).0))
    (phase_deadline b.phase) on.ends) r.branches h.branches))

-- ---- a moment before a deadline

-- a branch to a target without a final answer, whose deadline isn't before a moment: the moment is in its time
pub still_waits : (invite : Bool) (origin now : ℕ) (phase : Phase) → is_final phase ≡ false → IsBy (origin + phase_time invite false phase) (phase_deadline phase)
    → IsFrom now (phase_deadline phase)
    → now ≤ origin + waiting_time invite
still_waits true origin now (Unheard due) waits by from = omega arith
still_waits true origin now (Heard due) waits by from = omega arith
still_waits true origin now (Cancelled due) waits by from = omega arith
still_waits invite origin now (Done due status) waits by from = absurd (cc)
still_waits invite origin now Ended waits by from = absurd (cc)
still_waits false origin now (Unheard due) waits by from = omega arith
still_waits false origin now (Heard due) waits by from = omega arith
still_waits false origin now (Cancelled due) waits by from = omega arith

-- a CANCEL without one
pub cancel_waits : (invite : Bool) (origin now : ℕ) (phase : Phase) → is_final phase ≡ false → IsBy (origin + phase_time invite true phase) (phase_deadline phase)
    → IsFrom now (phase_deadline phase)
    → now ≤ origin + 217000
cancel_waits invite origin now (Unheard due) waits by from = omega arith
cancel_waits invite origin now (Heard due) waits by from = omega arith
cancel_waits invite origin now (Cancelled due) waits by from = omega arith
cancel_waits invite origin now (Done due status) waits by from = absurd (cc)
cancel_waits invite origin now Ended waits by from = absurd (cc)

-- an INVITE's branch that is ready for a CANCEL
pub ready_in_time : (origin now : ℕ) (phase : Phase) → is_ready phase ≡ true → IsBy (origin + phase_time true false phase) (phase_deadline phase)
    → IsFrom now (phase_deadline phase) → now ≤ origin + 185000
ready_in_time origin now (Unheard due) ready by from = absurd (cc)
ready_in_time origin now (Heard due) ready by from = omega arith
ready_in_time origin now (Cancelled due) ready by from = absurd (cc)
ready_in_time origin now (Done due status) ready by from = absurd (cc)
ready_in_time origin now Ended ready by from = absurd (cc)

-- ---- what is heard

-- a provisional response to a request that is no INVITE, or to a CANCEL, leaves the deadline, which is in time as before
pub other_heard_ends : (invite cancel : Bool) (origin : ℕ) (phase : Phase) → (invite ≡ true → cancel ≡ true)
    → IsBy (origin + phase_time invite cancel phase) (phase_deadline phase)
    → IsBy (origin + phase_time invite cancel (other_heard phase)) (phase_deadline (other_heard phase))
other_heard_ends true true origin (Unheard due) only by = omega arith
other_heard_ends true false origin (Unheard due) only by = absurd (cc (only refl))
other_heard_ends false true origin (Unheard due) only by = omega arith
other_heard_ends false false origin (Unheard due) only by = omega arith
other_heard_ends invite cancel origin (Heard due) only by = by
other_heard_ends invite cancel origin (Cancelled due) only by = by
other_heard_ends invite cancel origin (Done due status) only by = by
other_heard_ends invite cancel origin Ended only by = by

-- nor is it before a moment
pub other_heard_from : (now : ℕ) (phase : Phase) → IsFrom now (phase_deadline phase) → IsFrom now (phase_deadline (other_heard phase))
other_heard_from now (Unheard due) from = from
other_heard_from now (Heard due) from = from
other_heard_from now (Cancelled due) from = from
other_heard_from now (Done due status) from = from
other_heard_from now Ended from = from

-- a branch that was heard, by the status, is in time
either_heard : (t : Bool) (origin now due : ℕ) → (t ≡ false → now ≤ origin) → due ≤ origin + 185000
    → IsBy (origin + phase_time true false (cond t (Heard due) (Heard (now + 185000)))) (phase_deadline (cond t (Heard due) (Heard (now + 185000))))
either_heard true origin now due recent by = by
either_heard false origin now due recent by = let new : now ≤ origin = recent refl in omega arith

-- nor is its deadline before the moment
either_from : (t : Bool) (now due : ℕ) → now ≤ due → IsFrom now (phase_deadline (cond t (Heard due) (Heard (now + 185000))))
either_from true now due from = from
either_from false now due from = omega arith

-- a provisional response to an INVITE, which came no later than the moment from which its time counts, or is a 100
pub invite_heard_ends : (origin now status : ℕ) (phase : Phase) → ((status == 100) ≡ false → now ≤ origin)
    → IsBy (origin + phase_time true false phase) (phase_deadline phase)
    → IsBy (origin + phase_time true false (invite_heard now status phase)) (phase_deadline (invite_heard now status phase))
invite_heard_ends origin now status (Unheard due) recent by = either_heard (status == 100) origin now (due + 153000) recent (omega arith)
invite_heard_ends origin now status (Heard due) recent by = either_heard (status == 100) origin now due recent by
invite_heard_ends origin now status (Cancelled due) recent by = by
invite_heard_ends origin now status (Done due first) recent by = by
invite_heard_ends origin now status Ended recent by = by

-- its deadline isn't before the moment
pub invite_heard_from : (now status : ℕ) (phase : Phase) → IsFrom now (phase_deadline phase) → IsFrom now (phase_deadline (invite_heard now status phase))
invite_heard_from now status (Unheard due) from = either_from (status == 100) now (due + 153000) (omega arith)
invite_heard_from now status (Heard due) from = either_from (status == 100) now due from
invite_heard_from now status (Cancelled due) from = from
invite_heard_from now status (Done due first) from = from
invite_heard_from now status Ended from = from

-- either way
pub heard_ends : (invite : Bool) (origin now status : ℕ) (phase : Phase) → (invite ≡ true → (status == 100) ≡ false → now ≤ origin)
    → IsBy (origin + phase_time invite false phase) (phase_deadline phase)
    → IsBy (origin + phase_time invite false (cond invite (invite_heard now status phase) (other_heard phase)))
    (phase_deadline (cond invite (invite_heard now status phase) (other_heard phase)))
heard_ends true origin now status phase recent by = invite_heard_ends origin now status phase (recent refl) by
heard_ends false origin now status phase recent by = other_heard_ends false false origin phase (λ e. absurd (cc)) by

-- and not before the moment
pub heard_from : (invite : Bool) (now status : ℕ) (phase : Phase) → IsFrom now (phase_deadline phase)
    → IsFrom now (phase_deadline (cond invite (invite_heard now status phase) (other_heard phase)))
heard_from true now status phase from = invite_heard_from now status phase from
heard_from false now status phase from = other_heard_from now phase from
