-- Each deadline of a request that passes leaves fewer that may still pass.
use Rattle.std.proofs.Common.{◌++◌, ◌≡◌, inl, inr, ℕ, ◌+◌, ◌≤◌, Bool, true, false, not, ◌&&◌, cond, ◌==◌, List, [], ◌∷◌, map, Option, Some, None, refl, sym, ap, subst}
use Rattle.std.proofs.Common.{◌∙◌, arith, sum_by, count_by, flat_map}
use Rattle.std.proofs.lemmas.Bool.Decides.{nat_tests}
use Rattle.std.proofs.lemmas.List.Sums.{sum_by-cons}
use Rattle.model_steps.specs.state.declared.server.Server.{Server}
use Rattle.model_steps.specs.state.declared.branch.Phase.{Phase}
use Rattle.model_steps.specs.state.declared.open_request.Side.{Side}
use Rattle.model_steps.specs.state.declared.branch.Branch.{Branch}
use Rattle.model_steps.specs.state.declared.open_request.OpenRequest.{OpenRequest}
use Rattle.model_steps.specs.state.declared.branch.Phase.TheVariants.{Unheard, Heard, Cancelled, Done, Ended}
use Rattle.model_steps.specs.state.declared.open_request.Side.TheVariants.{Answering, Closing, Acknowledged, Closed}
use Rattle.model_steps.specs.state.State.{is_invite, is_answering, phase_deadline, side_deadline, is_provisional}
use Rattle.model_steps.specs.state.declared.open_request.Upward.{Upward}
use Rattle.sip_event.specs.declared.packet.Packet.{Packet}
use Rattle.model_steps.specs.state.declared.resend.Resend.{Resend}
use Rattle.model_steps.specs.context_model.Retransmission.{resent_branch, branch_next, IsResent, OfAnswer, OfRequest}
use Rattle.model_steps.specs.context_model.Branches.{Change, is_same_branch, with_phase, given_up, best_upward, is_ready, is_cancellable, cancel_branch, after_upward}
use Rattle.model_steps.specs.context_model.Branches.{settled, target_overdue, side_overdue, turned, held_branch, with_cancel}
use Rattle.model_steps.specs.Step.{IsOverdue, OfSide, OfBranch}
use Rattle.sip_model.specs.Order.{phase_left, side_left, deadlines_left}
use Rattle.sip_model.proofs.Places.{IsIn, in_from_contains, count_cons, one_at, none_at}
use Rattle.sip_model.proofs.Events.{wanting}

-- ---- sums over branches

-- how many deadlines of branches may still pass
abbrev pub branches_left : List Branch → ℕ
branches_left bs = sum_by (λ (b : Branch). phase_left b.phase) bs

-- of one branch and the others
left_cons : (b : Branch) (bs : List Branch) → branches_left (b ∷ bs) ≡ phase_left b.phase + branches_left bs
left_cons b bs = sum_by-cons (λ (x : Branch). phase_left x.phase) b bs

-- where no branch is left more, together they aren't
pub map_left : (f : Branch → Branch) (bs : List Branch) → ((x : Branch) → phase_left (f x).phase ≤ phase_left x.phase) → branches_left (map f bs) ≤ branches_left bs
map_left f [] less = omega arith
map_left f (b ∷ bs) less = omega (arith, left_cons b bs, left_cons (f b) (map f bs), less b, map_left f bs less)

-- and where one of them is left less, together they are
map_left_less : (f : Branch → Branch) (bs : List Branch) (y : Branch) → IsIn y bs → phase_left (f y).phase + 1 ≤ phase_left y.phase
    → ((x : Branch) → phase_left (f x).phase ≤ phase_left x.phase)
    → branches_left (map f bs) + 1 ≤ branches_left bs
map_left_less f [] y there one less = absurd there
map_left_less f (b ∷ bs) y (inl same) one less =
    let here : phase_left (f b).phase + 1 ≤ phase_left b.phase = subst (λ (x : Branch). phase_left (f x).phase + 1 ≤ phase_left x.phase) (sym same) one in
    omega (arith, left_cons b bs, left_cons (f b) (map f bs), here, map_left f bs less)
map_left_less f (b ∷ bs) y (inr later) one less = omega (arith, left_cons b bs, left_cons (f b) (map f bs), less b, map_left_less f bs y later one less)

-- ---- what settling leaves

-- a branch that is ready for a CANCEL has three left
ready_left : (phase : Phase) → is_ready phase ≡ true → phase_left phase ≡ 3
ready_left (Unheard due) e = absurd (cc)
ready_left (Heard due) e = refl
ready_left (Cancelled due) e = absurd (cc)
ready_left (Done due f) e = absurd (cc)
ready_left Ended e = absurd (cc)

-- the last of three tests that all pass
pub last_true : (x y z : Bool) → (x && y && z) ≡ true → z ≡ true
last_true true true z e = e
last_true true false z e = absurd (cc)
last_true false y z e = absurd (cc)

-- the same of one that is sent a CANCEL now
cancellable_left : (b : Branch) → is_cancellable b ≡ true → phase_left b.phase ≡ 3
cancellable_left b e = ready_left b.phase (last_true (not b.is_cancel) b.wants_cancel (is_ready b.phase) e)

-- each CANCEL that is sent leaves one deadline fewer
pub with_cancels_left : (now : ℕ) (bs : List Branch) → branches_left (flat_map (with_cancel now) bs) + count_by is_cancellable bs ≤ branches_left bs
with_cancels_left now [] = omega arith
with_cancels_left now (b ∷ bs) = by_test (is_cancellable b) refl (with_cancels_left now bs) where
  by_test : (t : Bool) → is_cancellable b ≡ t → branches_left (flat_map (with_cancel now) bs) + count_by is_cancellable bs ≤ branches_left bs
      → branches_left (cond t (held_branch now b ∷ cancel_branch now b ∷ []) (b ∷ []) ++ flat_map (with_cancel now) bs) + count_by is_cancellable (b ∷ bs) ≤ branches_left
      (b ∷ bs)
  by_test true is rest =
      omega (
        arith,
        rest,
        left_cons b bs,
        left_cons (held_branch now b) (cancel_branch now b ∷ flat_map (with_cancel now) bs),
        left_cons (cancel_branch now b) (flat_map (with_cancel now) bs),
        count_cons is_cancellable b bs,
        one_at (is_cancellable b) is,
        cancellable_left b is,
      )
  by_test false is rest = omega (arith, rest, left_cons b bs, left_cons b (flat_map (with_cancel now) bs), count_cons is_cancellable b bs, none_at (is_cancellable b) is)

-- an answer leaves the side no more
side_not_more : (t : Bool) (side : Side) (due : ℕ) → is_answering side ≡ t → (x : Bool) → side_left (cond (t && x) (Closing due) side) ≤ side_left side
side_not_more true Answering due e true = omega arith
side_not_more true Answering due e false = omega arith
side_not_more true (Closing at) due e x = absurd (cc)
side_not_more true (Acknowledged at) due e x = absurd (cc)
side_not_more true Closed due e x = absurd (cc)
side_not_more false side due e x = omega arith

-- what goes up leaves the side no more, and the branches as they are
pub upward_left : (now : ℕ) (o : Option Upward) (r : OpenRequest) → (side_left (after_upward now o r).side ≤ side_left r.side)
    × ((after_upward now o r).branches ≡ r.branches)
upward_left now None r = (omega arith, refl)
upward_left now (Some u) r = (side_not_more (is_answering r.side) r.side (now + 32000) refl (not (is_provisional u.status)), refl)

-- settling a request to which nothing goes at once
pub settled_left : (server : Server) (now : ℕ) (r : OpenRequest) → deadlines_left (settled server now [] None r).request + count_by is_cancellable r.branches ≤
    deadlines_left r
settled_left server now r =
    let best : Option Upward = best_upward server r in
    let after : OpenRequest = after_upward now best r in
    let up = upward_left now best r in
    let side : side_left after.side ≤ side_left r.side = up.0 in
    let same : branches_left after.branches ≡ branches_left r.branches = ap branches_left up.1 in
    let ready : count_by is_cancellable after.branches ≡ count_by is_cancellable r.branches = ap (count_by is_cancellable) up.1 in
    omega (arith, side, same, ready, with_cancels_left now after.branches)

-- ---- a deadline that passes

-- a deadline that stands may still pass
due_left : (phase : Phase) (due : ℕ) → phase_deadline phase ≡ Some due → 1 ≤ phase_left phase
due_left (Unheard at) due e = omega arith
due_left (Heard at) due e = omega arith
due_left (Cancelled at) due e = omega arith
due_left (Done at f) due e = omega arith
due_left Ended due e = absurd (cc)

-- a branch that ends
abbrev pub ended : Branch → Branch → Branch
ended b x = cond (is_same_branch x b) (turned b Ended x) x

-- it has no more left
pub ended_not_more : (b x : Branch) (t : Bool) → phase_left (cond t (turned b Ended x) x).phase ≤ phase_left x.phase
ended_not_more b x true = omega arith
ended_not_more b x false = omega arith

-- a test agrees with itself
both_same : (t : Bool) → cond t t (not t) ≡ true
both_same true = refl
both_same false = refl

-- a branch is the same as itself
pub same_branch : (b : Branch) → is_same_branch b b ≡ true
same_branch b = let number : (b.number == b.number) ≡ true = grind (arith, nat_tests) in
    ap (λ (t : Bool). t && cond b.is_cancel b.is_cancel (not b.is_cancel)) number ∙ both_same b.is_cancel

-- where a branch with a deadline ends, fewer are left
pub ended_left : (b : Branch) (bs : List Branch) (due : ℕ) → IsIn b bs → phase_deadline b.phase ≡ Some due → branches_left (map (ended b) bs) + 1 ≤ branches_left bs
ended_left b bs due there e =
    map_left_less (ended b) bs b there
    (subst (λ (t : Bool). phase_left (cond t (turned b Ended b) b).phase + 1 ≤ phase_left b.phase) (sym (same_branch b)) (let one = due_left b.phase due e in
    omega arith))
    (λ x. ended_not_more b x (is_same_branch x b))

-- a branch that ends leaves a deadline fewer
pub ends_left : (server : Server) (now due : ℕ) (r between : OpenRequest) (b : Branch) → IsIn b r.branches → phase_deadline b.phase ≡ Some due → between.side ≡ r.side
    → between.branches ≡ map (ended b) r.branches
    → deadlines_left (settled server now [] None between).request + 1 ≤ deadlines_left r
ends_left server now due r between b there e side branches =
    omega (arith, settled_left server now between, ended_left b r.branches due there e, ap side_left side, ap branches_left branches)

-- that a branch is to be cancelled leaves no more
pub wanted_left : (b : Branch) (bs : List Branch) → branches_left (map (λ (x : Branch). cond (is_same_branch x b) (record x { wants_cancel = true }) x) bs) ≤
    branches_left bs
wanted_left b bs = map_left (λ (x : Branch). cond (is_same_branch x b) (record x { wants_cancel = true }) x) bs (λ x. not_more x (is_same_branch x b)) where
  not_more : (x : Branch) (t : Bool) → phase_left (cond t (record x { wants_cancel = true }) x).phase ≤ phase_left x.phase
  not_more x true = omega arith
  not_more x false = omega arith

-- a branch that was heard is one of those that are sent a CANCEL then
wanted_ready : (b : Branch) (bs : List Branch) (due : ℕ) → IsIn b bs → b.is_cancel ≡ false → b.phase ≡ Heard due
    → 1 ≤ count_by is_cancellable (map (λ (x : Branch). cond (is_same_branch x b) (record x { wants_cancel = true }) x) bs)
wanted_ready b [] due there target heard = absurd there
wanted_ready b (x ∷ xs) due (inr later) target heard =
    let f = λ (y : Branch). cond (is_same_branch y b) (record y { wants_cancel = true }) y in
    omega (arith, count_cons is_cancellable (f x) (map f xs), wanted_ready b xs due later target heard)
wanted_ready b (x ∷ xs) due (inl same) target heard =
    let f = λ (y : Branch). cond (is_same_branch y b) (record y { wants_cancel = true }) y in
    let ready : is_cancellable (f b) ≡ true =
    ap (λ (t : Bool). is_cancellable (cond t (record b { wants_cancel = true }) b)) (same_branch b) ∙ ap (λ (t : Bool). not t && true && is_ready b.phase) target
    ∙ ap is_ready heard in
    omega (arith, count_cons is_cancellable (f x) (map f xs), one_at (is_cancellable (f x)) (ap (λ (y : Branch). is_cancellable (f y)) same ∙ ready))

-- the deadline of a branch that was heard
heard_left : (server : Server) (now due : ℕ) (r : OpenRequest) (b : Branch) (t : Bool) → IsIn b r.branches → b.is_cancel ≡ false → b.phase ≡ Heard due
    → deadlines_left (settled server now [] None (cond t (wanting b r) (given_up b 408 r))).request + 1 ≤ deadlines_left r
heard_left server now due r b true there target heard =
    omega (arith, settled_left server now (wanting b r), wanted_left b r.branches, wanted_ready b r.branches due there target heard)
heard_left server now due r b false there target heard = ends_left server now due r (given_up b 408 r) b there (ap phase_deadline heard) refl refl

-- the deadline of a branch to a target
target_left : (server : Server) (now due : ℕ) (r : OpenRequest) (b : Branch) (phase : Phase) → b.phase ≡ phase → b.is_cancel ≡ false → IsIn b r.branches
    → phase_deadline b.phase ≡ Some due
    → deadlines_left (settled server now [] None (target_overdue r b phase)).request + 1 ≤ deadlines_left r
target_left server now due r b (Unheard at) is target there e = ends_left server now due r (given_up b 408 r) b there e refl refl
target_left server now due r b (Heard at) is target there e = heard_left server now at r b (is_invite r) there target is
target_left server now due r b (Cancelled at) is target there e = ends_left server now due r (given_up b 487 r) b there e refl refl
target_left server now due r b (Done at f) is target there e = ends_left server now due r (with_phase b Ended r) b there e refl refl
target_left server now due r b Ended is target there e = absurd (cc (e, ap phase_deadline is))

-- the deadline of a branch
branch_passed : (server : Server) (now due : ℕ) (r : OpenRequest) (b : Branch) (t : Bool) → b.is_cancel ≡ t → IsIn b r.branches → phase_deadline b.phase ≡ Some due
    → deadlines_left (settled server now [] None (cond t (with_phase b Ended r) (target_overdue r b b.phase))).request + 1 ≤ deadlines_left r
branch_passed server now due r b true is there e = ends_left server now due r (with_phase b Ended r) b there e refl refl
branch_passed server now due r b false is there e = target_left server now due r b b.phase refl is there e

-- a side with a deadline has one left
pub side_passed_left : (side : Side) (due : ℕ) → side_deadline side ≡ Some due → side_left side ≡ 1
side_passed_left Answering due e = absurd (cc)
side_passed_left (Closing at) due e = refl
side_passed_left (Acknowledged at) due e = refl
side_passed_left Closed due e = absurd (cc)

-- the deadline of the side
side_passed : (server : Server) (now due : ℕ) (r : OpenRequest) → side_deadline r.side ≡ Some due
    → deadlines_left (side_overdue server now r).request + 1 ≤ deadlines_left r
side_passed server now due r e = omega (arith, settled_left server now (record r { side = Closed }), side_passed_left r.side due e)

-- a deadline of a request that passes leaves fewer that may still pass
pub passed_left : (server : Server) (due : ℕ) (r : OpenRequest) (change : Change) → IsOverdue server due r change → deadlines_left change.request + 1 ≤ deadlines_left r
passed_left server due r change (OfSide e) = side_passed server due due r e
passed_left server due r change (OfBranch b there e) = branch_passed server due due r b b.is_cancel refl (in_from_contains r.branches b there) e

-- ---- what goes again

-- a branch that went again has as many left
again_left : (next : Resend) (x : Branch) (t : Bool) → phase_left (cond t (record x { again = next }) x).phase ≤ phase_left x.phase
again_left next x true = omega arith
again_left next x false = omega arith

-- so has a request something of which went again
pub resent_left : (server : Server) (due : ℕ) (r : OpenRequest) (packets : List Packet) (next : OpenRequest) → IsResent server due r packets next
    → deadlines_left next ≤ deadlines_left r
resent_left server due r _ _ (OfAnswer is) = omega arith
resent_left server due r _ _ (OfRequest b there is) =
    let branches = map_left (resent_branch b (branch_next r b)) r.branches (λ x. again_left (branch_next r b) x (is_same_branch x b)) in
    omega (arith, branches)
