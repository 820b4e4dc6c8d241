-- The timers that a request names are due at near moments.
use Rattle.std.proofs.Common.{◌≡◌, ℕ, ◌+◌, ◌<◌, ◌≤◌, ◌^◌, Bool, true, false, cond, List, [], ◌∷◌, ◌++◌, Option, arith, ltb}
use Rattle.std.specs.Prelude.{◌&&◌, not, count_by}
use Rattle.std.specs.List.{AllByRecursion}
use Rattle.std.proofs.lemmas.Bool.Decides.{nat_tests}
use Rattle.sip_timers.specs.declared.letter.Letter.{Letter}
use Rattle.sip_timers.specs.declared.letter.Letter.TheVariants as By
use Rattle.sip_timers.specs.declared.timer.Owner.{Owner}
use Rattle.sip_timers.specs.declared.timer.Owner.TheVariants as Of
use Rattle.sip_timers.specs.declared.timer.Timer.{Timer}
use Rattle.sip_context_branches.specs.state.State.{is_invite, is_success}
use Rattle.sip_context_branches.specs.state.declared.branch.Branch.{Branch}
use Rattle.sip_context_branches.specs.state.declared.branch.Phase.{Phase}
use Rattle.sip_context_branches.specs.state.declared.branch.Phase.TheVariants.{Unheard, Heard, Cancelled, Done, Ended}
use Rattle.sip_context_branches.specs.state.declared.open_request.LastAnswer.{LastAnswer}
use Rattle.sip_context_branches.specs.state.declared.open_request.OpenRequest.{OpenRequest}
use Rattle.sip_context_branches.specs.state.declared.open_request.Side.{Side}
use Rattle.sip_context_branches.specs.state.declared.open_request.Side.TheVariants.{Answering, Closing, Acknowledged, Closed}
use Rattle.sip_context_branches.specs.state.declared.resend.Resend.{Resend}
use Rattle.sip_context_branches.specs.context_model.Branches.{was_refused}
use Rattle.model_transactions.specs.InviteClient.{invite_timers, call_timers}
use Rattle.model_transactions.specs.OtherClient.{other_timers}
use Rattle.model_transactions.specs.InviteServer.{invite_side_timers}
use Rattle.model_transactions.specs.OtherServer.{other_side_timers}
use Rattle.model_transactions.specs.Ties.{named, part_timers, owner_of, branch_timers, side_timers, branches_timers, timers_of}
use Rattle.model_transactions.specs.declared.timer_keys.TimerKeys.{TimerKeys}
use Rattle.model_transactions.specs.Near.{IsNear, IsPhaseNear, IsSideNear, IsBranchWithin, IsWithin}
use Rattle.model_transactions.proofs.Lists.{all_append, all_map, all_weaker, none_passes}
use Rattle.model_transactions.proofs.Near.{near_earlier}

module _ (bound : ℕ) where
  -- what a part's timers are due at is near
  abbrev pub AreNear : List (Letter × ℕ) → Type 0
  AreNear ts = AllByRecursion (λ (t : Letter × ℕ). IsNear bound t.1) ts

  -- ---- a branch

  invite_near : (phase : Phase) (again : Resend) → IsPhaseNear bound phase → IsNear bound again.due → AreNear (invite_timers phase again ++ call_timers phase)
  invite_near (Unheard until) again e a = (a, (near_earlier bound until e, (e, tt)))
  invite_near (Heard until) again e a = (e, tt)
  invite_near (Cancelled until) again e a = (e, tt)
  invite_near (Done until status) again e a = by_test (is_success status) where
    by_test : (t : Bool) → AreNear (cond t ((By.M, until) ∷ []) ((By.D, until) ∷ []) ++ [])
    by_test true = (e, tt)
    by_test false = (e, tt)
  invite_near Ended again e a = tt

  other_near : (phase : Phase) (again : Resend) → IsPhaseNear bound phase → IsNear bound again.due → AreNear (other_timers phase again)
  other_near (Unheard until) again e a = (a, (near_earlier bound until e, tt))
  other_near (Heard until) again e a = (a, (e, tt))
  other_near (Cancelled until) again e a = tt
  other_near (Done until status) again e a = (e, tt)
  other_near Ended again e a = tt

  pub branch_near : (r : OpenRequest) (b : Branch) → IsBranchWithin bound b → AreNear (branch_timers r b)
  branch_near r b w = by_kind (is_invite r && not b.is_cancel) where
    by_kind : (t : Bool) → AreNear (cond t (invite_timers b.phase b.again ++ call_timers b.phase) (other_timers b.phase b.again))
    by_kind true = invite_near b.phase b.again w.phase_near w.again_near
    by_kind false = other_near b.phase b.again w.phase_near w.again_near

  -- ---- the answering side

  invite_side_near : (side : Side) (answer : Option LastAnswer) (again : Resend) → IsSideNear bound side → IsNear bound again.due
      → AreNear (invite_side_timers side answer again)
  invite_side_near Answering answer again e a = tt
  invite_side_near (Closing until) answer again e a = by_test (was_refused answer) where
    by_test : (t : Bool) → AreNear (cond t ((By.G, again.due) ∷ (By.H, until) ∷ []) ((By.L, until) ∷ []))
    by_test true = (a, (e, tt))
    by_test false = (e, tt)
  invite_side_near (Acknowledged until) answer again e a = (e, tt)
  invite_side_near Closed answer again e a = tt

  other_side_near : (side : Side) → IsSideNear bound side → AreNear (other_side_timers side)
  other_side_near Answering e = tt
  other_side_near (Closing until) e = (e, tt)
  other_side_near (Acknowledged until) e = tt
  other_side_near Closed e = tt

  pub side_near : (r : OpenRequest) → IsWithin bound r → AreNear (side_timers r)
  side_near r w = by_kind (is_invite r) where
    by_kind : (t : Bool) → AreNear (cond t (invite_side_timers r.side r.answer r.again) (other_side_timers r.side))
    by_kind true = invite_side_near r.side r.answer r.again w.side_near w.again_near
    by_kind false = other_side_near r.side w.side_near

  -- ---- the whole

  abbrev pub StandNear : List Timer → Type 0
  StandNear ts = AllByRecursion (λ (t : Timer). IsNear bound t.due) ts

  part_near : (number : ℕ) (owner : Owner) (keys : TimerKeys) (ts : List (Letter × ℕ)) → AreNear ts → StandNear (part_timers number owner keys ts)
  part_near number owner keys ts near = all_map (λ (t : Timer). IsNear bound t.due) (named number owner keys) ts near

  branches_near : (r : OpenRequest) (bs : List Branch) (keys : List TimerKeys) → AllByRecursion (IsBranchWithin bound) bs → StandNear (branches_timers r bs keys)
  branches_near r [] keys w = tt
  branches_near r (b ∷ bs) [] w = tt
  branches_near r (b ∷ bs) (key ∷ keys) w =
      all_append (λ (t : Timer). IsNear bound t.due) (part_timers r.number (owner_of b) key (branch_timers r b)) (branches_timers r bs keys)
      (part_near r.number (owner_of b) key (branch_timers r b) (branch_near r b w.0)) (branches_near r bs keys w.1)

  pub all_near : (r : OpenRequest) (side : TimerKeys) (keys : List TimerKeys) → IsWithin bound r → StandNear (timers_of r side keys)
  all_near r side keys w =
      all_append (λ (t : Timer). IsNear bound t.due) (part_timers r.number Of.Server side (side_timers r)) (branches_timers r r.branches keys)
      (part_near r.number Of.Server side (side_timers r) (side_near r w)) (branches_near r r.branches keys w.branches_within)

-- ---- none later

not_later : (bound due : ℕ) → due ≤ bound + 185000 → ltb (bound + 185000) due ≡ false
not_later bound due e = grind (arith, nat_tests)

pub none_later : (bound : ℕ) (ts : List Timer) → AllByRecursion (λ (t : Timer). IsNear bound t.due) ts → count_by (λ (t : Timer). ltb (bound + 185000) t.due) ts ≡ 0
none_later bound ts near = none_passes (λ (t : Timer). IsNear bound t.due) (λ (t : Timer). ltb (bound + 185000) t.due) (λ t. not_later bound t.due) ts near

-- ---- not too far

pub allowed : (bound reached due : ℕ) → bound ≤ reached + 1 → due ≤ bound + 185000 → due < reached + 2 ^ 30
allowed bound reached due h e = omega arith

pub all_allowed : (bound reached : ℕ) (ts : List Timer) → bound ≤ reached + 1 → AllByRecursion (λ (t : Timer). IsNear bound t.due) ts
    → AllByRecursion (λ (t : Timer). t.due < reached + 2 ^ 30) ts
all_allowed bound reached ts h near = all_weaker (λ (t : Timer). IsNear bound t.due) (λ (t : Timer). t.due < reached + 2 ^ 30) (λ t. allowed bound reached t.due h) ts
    near
