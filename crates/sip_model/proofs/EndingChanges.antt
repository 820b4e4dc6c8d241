-- What a change makes of an waits request that is in time: it is so after it.
use Rattle.std.proofs.Common.{◌≡◌, ℕ, ◌+◌, ◌≤◌, Bool, true, false, not, ◌&&◌, ◌||◌, cond, ◌==◌, List, [], ◌∷◌, ◌++◌, map, flat_map, Option, Some, None, refl, sym, subst}
use Rattle.std.proofs.Common.{arith}
use Rattle.std.specs.List.{AllByRecursion}
use Rattle.sip_message_form.specs.declared.message.Message.{Message}
use Rattle.sip_event.specs.declared.packet.Packet.{Packet}
use Rattle.model_steps.specs.state.declared.server.Server.{Server}
use Rattle.model_steps.specs.state.declared.branch.Phase.{Phase}
use Rattle.model_steps.specs.state.declared.branch.Phase.TheVariants.{Unheard, Heard, Cancelled, Done, Ended}
use Rattle.model_steps.specs.state.declared.branch.Branch.{Branch}
use Rattle.model_steps.specs.state.declared.open_request.Side.{Side}
use Rattle.model_steps.specs.state.declared.open_request.Side.TheVariants.{Answering, Closing, Acknowledged, Closed}
use Rattle.model_steps.specs.state.declared.open_request.OpenRequest.{OpenRequest}
use Rattle.model_steps.specs.state.declared.open_request.Upward.{Upward}
use Rattle.sip_best.specs.declared.final_answer.Final.{Final}
use Rattle.model_steps.specs.state.State.{is_invite, is_final, is_answering, is_success, is_decline, is_provisional, phase_deadline, side_deadline}
use Rattle.model_steps.specs.context_model.Branches.{is_same_branch, turned, phased, with_phase, with_final, marked_branch, marked, given_up, best_upward, is_ready}
use Rattle.model_steps.specs.context_model.Branches.{is_cancellable, held_branch, cancel_branch, with_cancel, after_upward, settled, heard, other_heard}
use Rattle.model_steps.specs.context_model.Branches.{relayed_provisional, relayed_success, further, linger, final_of, told_to, with_answer, acks_of, target_responded}
use Rattle.model_steps.specs.context_model.Branches.{cancel_responded, responded, target_overdue, branch_overdue, overdue, side_overdue, send_failed, cancelled}
use Rattle.sip_model.proofs.EndingLists.{all_map}
use Rattle.sip_model.proofs.EndingTimes.{waiting_time, phase_time, side_time, IsBy, IsFrom, IsOnTime, IsInTime, still_waits, cancel_waits, ready_in_time}
use Rattle.sip_model.proofs.EndingTimes.{other_heard_ends, other_heard_from, heard_ends, heard_from}

-- ---- in the midst of a change

-- a branch ends in time, and its deadline isn't before a moment
abbrev pub IsOpenAt : Bool → ℕ → ℕ → Branch → Type 0
IsOpenAt invite origin now b = IsOnTime invite origin b × IsFrom now (phase_deadline b.phase)

-- An waits request in the midst of a change at a moment: it is in time, none of its branches' deadlines is before the moment, and while it owes its final answer the
-- moment is in the time of
-- a branch to a target.
pub record IsChanging (origin now : ℕ) (r x : OpenRequest) : Type 0 where
  pub key_is : x.key ≡ r.key
  pub number_is : x.number ≡ r.number
  pub arrival_is : x.arrived_at ≡ r.arrived_at
  pub branches : AllByRecursion (IsOpenAt (is_invite r) origin now) x.branches
  pub side : IsBy (origin + side_time (is_invite r) x.side) (side_deadline x.side)
  pub owes : is_answering x.side ≡ true → now ≤ origin + waiting_time (is_invite r)

-- the same request after a change, which is in time
pub record HasChanged (origin : ℕ) (r x : OpenRequest) : Type 0 where
  pub key_is : x.key ≡ r.key
  pub number_is : x.number ≡ r.number
  pub arrival_is : x.arrived_at ≡ r.arrived_at
  pub in_time : IsInTime (is_invite r) origin x

-- ---- what follows every event

-- a side that closes with a final answer is in time
closing_by : (invite : Bool) (origin now : ℕ) (side : Side) (t : Bool) → (is_answering side ≡ true → now ≤ origin + waiting_time invite)
    → IsBy (origin + side_time invite side) (side_deadline side)
    → IsBy (origin + side_time invite (cond (is_answering side && t) (Closing (now + 32000)) side))
    (side_deadline (cond (is_answering side && t) (Closing (now + 32000)) side))
closing_by true origin now Answering true owes by = let early = owes refl in omega arith
closing_by false origin now Answering true owes by = let early = owes refl in omega arith
closing_by invite origin now Answering false owes by = tt
closing_by invite origin now (Closing due) t owes by = by
closing_by invite origin now (Acknowledged due) t owes by = by
closing_by invite origin now Closed t owes by = tt

-- and owes no answer that it didn't
closing_owes : (side : Side) (t : Bool) (due : ℕ) → is_answering (cond (is_answering side && t) (Closing due) side) ≡ true → is_answering side ≡ true
closing_owes Answering t due e = refl
closing_owes (Closing until) t due e = e
closing_owes (Acknowledged until) t due e = e
closing_owes Closed t due e = e

-- an answer that goes up
pub upward_changing : (origin now : ℕ) (r : OpenRequest) (o : Option Upward) (x : OpenRequest) → IsChanging origin now r x
    → IsChanging origin now r (after_upward now o x)
upward_changing origin now r None x h = h
upward_changing origin now r (Some u) x h = record {
  key_is = h.key_is;
  number_is = h.number_is;
  arrival_is = h.arrival_is;
  branches = h.branches;
  side = closing_by (is_invite r) origin now x.side (not (is_provisional u.status)) h.owes h.side;
  owes = λ e. h.owes (closing_owes x.side (not (is_provisional u.status)) (now + 32000) e);
}

-- a branch that is sent a CANCEL is one of an INVITE, and to a target, and the moment isn't past Timer C
can_cancel : (invite cancel wants : Bool) (origin now : ℕ) (phase : Phase) → (not cancel && wants && is_ready phase) ≡ true
    → IsBy (origin + phase_time invite cancel phase) (phase_deadline phase)
    → (invite ≡ false → (cancel ≡ false) × (wants ≡ false)) → IsFrom now (phase_deadline phase) → (invite ≡ true) × (cancel ≡ false) × (now ≤ origin + 185000)
can_cancel true false true origin now phase e by plain from = (refl, refl, ready_in_time origin now phase e by from)
can_cancel false false true origin now phase e by plain from = absurd (cc ((plain refl).1))
can_cancel invite false false origin now phase e by plain from = absurd (cc)
can_cancel invite true wants origin now phase e by plain from = absurd (cc)

-- it is held in time
held_by : (invite cancel : Bool) (origin now : ℕ) → invite ≡ true → cancel ≡ false → now ≤ origin + 185000
    → now + 32000 ≤ origin + phase_time invite cancel (Cancelled (now + 32000))
held_by true false origin now i c early = omega arith
held_by true true origin now i c early = absurd (cc)
held_by false cancel origin now i c early = absurd (cc)

-- so the branch is
held_on_time : (invite : Bool) (origin now : ℕ) (b : Branch) → is_cancellable b ≡ true → IsOpenAt invite origin now b → IsOnTime invite origin (held_branch now b)
held_on_time invite origin now b e h =
    let can = can_cancel invite b.is_cancel b.wants_cancel origin now b.phase e h.0.ends h.0.cancels_nothing h.1 in
    record { ends = held_by invite b.is_cancel origin now can.0 can.1 can.2; cancels_nothing = h.0.cancels_nothing }

-- and so is its CANCEL
cancel_on_time : (invite : Bool) (origin now : ℕ) (b : Branch) → is_cancellable b ≡ true → IsOpenAt invite origin now b → IsOnTime invite origin (cancel_branch now b)
cancel_on_time invite origin now b e h =
    let can = can_cancel invite b.is_cancel b.wants_cancel origin now b.phase e h.0.ends h.0.cancels_nothing h.1 in
    record { ends = (let early = can.2 in let by : now + 32000 ≤ origin + 217000 = omega arith in by); cancels_nothing = λ other. absurd (cc (can.0, other)) }

-- branches, and right behind each the CANCEL that it is sent
cancels_on_time : (invite : Bool) (origin now : ℕ) (bs : List Branch) → AllByRecursion (IsOpenAt invite origin now) bs
    → AllByRecursion (IsOnTime invite origin) (flat_map (with_cancel now) bs)
cancels_on_time invite origin now [] all = tt
cancels_on_time invite origin now (b ∷ bs) all = by_test (is_cancellable b) refl (cancels_on_time invite origin now bs all.1) where
  by_test : (t : Bool) → is_cancellable b ≡ t → AllByRecursion (IsOnTime invite origin) (flat_map (with_cancel now) bs)
      → AllByRecursion (IsOnTime invite origin) (cond t (held_branch now b ∷ cancel_branch now b ∷ []) (b ∷ []) ++ flat_map (with_cancel now) bs)
  by_test true e rest = (held_on_time invite origin now b e all.0, (cancel_on_time invite origin now b e all.0, rest))
  by_test false e rest = (all.0.0, rest)

-- so settling leaves the request in time
pub settled_changed : (server : Server) (origin now : ℕ) (acks : List Packet) (relayed : Option Upward) (r x : OpenRequest) → IsChanging origin now r x
    → HasChanged origin r (settled server now acks relayed x).request
settled_changed server origin now acks relayed r x h =
    let told : OpenRequest = after_upward now relayed x in
    let after : OpenRequest = after_upward now (best_upward server told) told in
    let changing : IsChanging origin now r after = upward_changing origin now r (best_upward server told) told (upward_changing origin now r relayed x h) in
    record {
      key_is = changing.key_is;
      number_is = changing.number_is;
      arrival_is = changing.arrival_is;
      in_time = record { branches = cancels_on_time (is_invite r) origin now after.branches changing.branches; side = changing.side };
    }

-- ---- branches change

-- branches that are one go to the same place
both_cancel : (a b t : Bool) → (t && cond a b (not b)) ≡ true → a ≡ b
both_cancel true true t e = refl
both_cancel true false true e = absurd (cc)
both_cancel true false false e = absurd (cc)
both_cancel false true true e = absurd (cc)
both_cancel false true false e = absurd (cc)
both_cancel false false t e = refl

-- a request whose branches change, each in time
branches_changing : (origin now : ℕ) (r x : OpenRequest) (f : Branch → Branch) → ((b : Branch) → IsOpenAt (is_invite r) origin now b
    → IsOpenAt (is_invite r) origin now (f b)) → IsChanging origin now r x
    → IsChanging origin now r (record x { branches = map f x.branches })
branches_changing origin now r x f each h = record {
  key_is = h.key_is;
  number_is = h.number_is;
  arrival_is = h.arrival_is;
  branches = all_map (IsOpenAt (is_invite r) origin now) (IsOpenAt (is_invite r) origin now) f each x.branches h.branches;
  side = h.side;
  owes = h.owes;
}

-- a branch in another phase, which is in time
phase_changing : (origin now : ℕ) (r x : OpenRequest) (b : Branch) (phase : Phase) → IsBy (origin + phase_time (is_invite r) b.is_cancel phase) (phase_deadline phase)
    → IsFrom now (phase_deadline phase) → IsChanging origin now r x
    → IsChanging origin now r (with_phase b phase x)
phase_changing origin now r x b phase by from h = branches_changing origin now r x (phased b phase) (λ y on. by_test y on (is_same_branch y b) refl) h where
  by_test : (y : Branch) → IsOpenAt (is_invite r) origin now y → (t : Bool) → is_same_branch y b ≡ t → IsOpenAt (is_invite r) origin now (cond t (turned b phase y) y)
  by_test y on true same =
      let cancel : y.is_cancel ≡ b.is_cancel = both_cancel y.is_cancel b.is_cancel (y.number == b.number) same in (
        record {
          ends = subst (λ (c : Bool). IsBy (origin + phase_time (is_invite r) c phase) (phase_deadline phase)) (sym cancel) by;
          cancels_nothing = on.0.cancels_nothing;
        },
        from,
      )
  by_test y on false same = on

-- a branch ends
ended_changing : (origin now : ℕ) (r x : OpenRequest) (b : Branch) → IsChanging origin now r x → IsChanging origin now r (with_phase b Ended x)
ended_changing origin now r x b h = phase_changing origin now r x b Ended tt tt h

-- one more final answer changes no deadline
final_changing : (origin now : ℕ) (r x : OpenRequest) (f : Final) → IsChanging origin now r x → IsChanging origin now r (with_final f x)
final_changing origin now r x f h =
    record { key_is = h.key_is; number_is = h.number_is; arrival_is = h.arrival_is; branches = h.branches; side = h.side; owes = h.owes }

-- a branch is given up
given_changing : (origin now : ℕ) (r x : OpenRequest) (b : Branch) (status : ℕ) → IsChanging origin now r x → IsChanging origin now r (given_up b status x)
given_changing origin now r x b status h = final_changing origin now r (with_phase b Ended x) (record { status = status; message = None })
    (ended_changing origin now r x b h)

-- a branch of an INVITE that is to be cancelled
wanted_on_time : (invite : Bool) (origin now : ℕ) (b : Branch) → invite ≡ true → IsOpenAt invite origin now b
    → IsOpenAt invite origin now (record b { wants_cancel = true })
wanted_on_time invite origin now b is h = (record { ends = h.0.ends; cancels_nothing = λ other. absurd (cc (is, other)) }, h.1)

-- the branches of an INVITE that have no final answer are to be cancelled
marked_changing : (origin now : ℕ) (r x : OpenRequest) → is_invite r ≡ true → IsChanging origin now r x → IsChanging origin now r (marked x)
marked_changing origin now r x is h = branches_changing origin now r x marked_branch (λ y on. by_test y on (y.is_cancel || is_final y.phase)) h where
  by_test : (y : Branch) → IsOpenAt (is_invite r) origin now y → (t : Bool) → IsOpenAt (is_invite r) origin now (cond t y (record y { wants_cancel = true }))
  by_test y on true = on
  by_test y on false = wanted_on_time (is_invite r) origin now y is on

-- one branch of an INVITE is to be cancelled
wanting_changing : (origin now : ℕ) (r x : OpenRequest) (b : Branch) → is_invite r ≡ true → IsChanging origin now r x
    → IsChanging origin now r (record x { branches = map (λ (y : Branch). cond (is_same_branch y b) (record y { wants_cancel = true }) y) x.branches })
wanting_changing origin now r x b is h = branches_changing origin now r x (λ (y : Branch). cond (is_same_branch y b) (record y { wants_cancel = true }) y)
    (λ y on. by_test y on (is_same_branch y b)) h where
      by_test : (y : Branch) → IsOpenAt (is_invite r) origin now y → (t : Bool) → IsOpenAt (is_invite r) origin now (cond t (record y { wants_cancel = true }) y)
      by_test y on true = wanted_on_time (is_invite r) origin now y is on
      by_test y on false = on

-- of two tests that both pass the first does
first_passes : (s t : Bool) → (s && t) ≡ true → s ≡ true
first_passes true t e = refl
first_passes false t e = absurd (cc)

-- ---- a response

-- a branch with a final answer lingers in time
lingers_by : (invite : Bool) (origin now status : ℕ) → now ≤ origin + waiting_time invite
    → now + cond invite 32000 5000 ≤ origin + phase_time invite false (Done (now + cond invite 32000 5000) status)
lingers_by true origin now status early = omega arith
lingers_by false origin now status early = omega arith

-- and beyond the moment
lingers_from : (t : Bool) (now : ℕ) → now ≤ now + cond t 32000 5000
lingers_from true now = omega arith
lingers_from false now = omega arith

-- what of a branch that goes to a target
of_target : (invite cancel : Bool) (origin : ℕ) (phase : Phase) → cancel ≡ false → IsBy (origin + phase_time invite cancel phase) (phase_deadline phase)
    → IsBy (origin + phase_time invite false phase) (phase_deadline phase)
of_target invite cancel origin phase is by = subst (λ (c : Bool). IsBy (origin + phase_time invite c phase) (phase_deadline phase)) is by

-- and back
to_target : (invite cancel : Bool) (origin : ℕ) (phase : Phase) → cancel ≡ false → IsBy (origin + phase_time invite false phase) (phase_deadline phase)
    → IsBy (origin + phase_time invite cancel phase) (phase_deadline phase)
to_target invite cancel origin phase is by = subst (λ (c : Bool). IsBy (origin + phase_time invite c phase) (phase_deadline phase)) (sym is) by

-- a response to the request of a branch
target_changed : (server : Server) (origin now : ℕ) (r : OpenRequest) (b : Branch) (status : ℕ) (m : Message) → IsChanging origin now r r
    → IsOpenAt (is_invite r) origin now b → b.is_cancel ≡ false
    → (is_provisional status ≡ true → is_invite r ≡ true → (status == 100) ≡ false → now ≤ origin)
    → HasChanged origin r (target_responded server now r b status m).request
target_changed server origin now r b status m h on target recent = by_status (is_provisional status) refl (is_final b.phase) refl where
  ends : IsBy (origin + phase_time (is_invite r) false b.phase) (phase_deadline b.phase)
  ends = of_target (is_invite r) b.is_cancel origin b.phase target on.0.ends

  told : Branch
  told = told_to r b status m

  done : Phase
  done = Done (now + linger r) status

  answered : OpenRequest
  answered = with_final (final_of status m) (with_phase told done r)

  answered_changing : is_final b.phase ≡ false → IsChanging origin now r answered
  answered_changing waits =
      final_changing origin now r (with_phase told done r) (final_of status m)
      (phase_changing origin now r r told done (to_target (is_invite r) b.is_cancel origin done target
      (lingers_by (is_invite r) origin now status (still_waits (is_invite r) origin now b.phase waits ends on.1)))
      (lingers_from (is_invite r) now) h)

  ended_search : is_final b.phase ≡ false → (t : Bool) → (is_invite r && (is_success status || is_decline status)) ≡ t
      → IsChanging origin now r (cond t (marked answered) answered)
  ended_search waits true is = marked_changing origin now r answered (first_passes (is_invite r) (is_success status || is_decline status) is) (answered_changing waits)
  ended_search waits false is = answered_changing waits

  by_status : (p : Bool) → is_provisional status ≡ p → (f : Bool) → is_final b.phase ≡ f
      → HasChanged origin r (cond p (settled server now [] (relayed_provisional r b status m) (with_phase b (heard r now status b.phase) r))
      (cond f (settled server now [] (further r b b.phase status m) r) (settled server now (acks_of server r b status m) (relayed_success r b status m)
      (with_answer r b now status m)))).request
  by_status true is f final =
      settled_changed server origin now [] (relayed_provisional r b status m) r (with_phase b (heard r now status b.phase) r)
      (phase_changing origin now r r b (heard r now status b.phase) (to_target (is_invite r) b.is_cancel origin (heard r now status b.phase) target
      (heard_ends (is_invite r) origin now status b.phase (recent is) ends))
      (heard_from (is_invite r) now status b.phase on.1) h)
  by_status false is true final = settled_changed server origin now [] (further r b b.phase status m) r r h
  by_status false is false waits =
      settled_changed server origin now (acks_of server r b status m) (relayed_success r b status m) r (with_answer r b now status m)
      (ended_search waits (is_invite r && (is_success status || is_decline status)) refl)

-- a response to a CANCEL
cancel_changed : (server : Server) (origin now : ℕ) (r : OpenRequest) (b : Branch) (status : ℕ) (m : Message) → IsChanging origin now r r
    → IsOpenAt (is_invite r) origin now b → b.is_cancel ≡ true
    → HasChanged origin r (cancel_responded server now r b status m).request
cancel_changed server origin now r b status m h on cancel = by_status (is_provisional status) (is_final b.phase) refl where
  ends : IsBy (origin + phase_time (is_invite r) true b.phase) (phase_deadline b.phase)
  ends = subst (λ (c : Bool). IsBy (origin + phase_time (is_invite r) c b.phase) (phase_deadline b.phase)) cancel on.0.ends

  as_cancel : (phase : Phase) → IsBy (origin + phase_time (is_invite r) true phase) (phase_deadline phase)
      → IsBy (origin + phase_time (is_invite r) b.is_cancel phase) (phase_deadline phase)
  as_cancel phase by = subst (λ (c : Bool). IsBy (origin + phase_time (is_invite r) c phase) (phase_deadline phase)) (sym cancel) by

  done_by : is_final b.phase ≡ false → now + 5000 ≤ origin + phase_time (is_invite r) true (Done (now + 5000) status)
  done_by waits = let early = cancel_waits (is_invite r) origin now b.phase waits ends on.1 in let by : now + 5000 ≤ origin + 222000 = omega arith in by

  done_from : now ≤ now + 5000
  done_from = omega arith

  by_status : (p f : Bool) → is_final b.phase ≡ f
      → HasChanged origin r (cond p (settled server now [] None (with_phase b (other_heard b.phase) r))
      (cond f (settled server now [] None r) (settled server now [] None (with_phase b (Done (now + 5000) status) r)))).request
  by_status true f final =
      settled_changed server origin now [] None r (with_phase b (other_heard b.phase) r)
      (phase_changing origin now r r b (other_heard b.phase) (as_cancel (other_heard b.phase) (other_heard_ends (is_invite r) true origin b.phase (λ e. refl) ends))
      (other_heard_from now b.phase on.1) h)
  by_status false true final = settled_changed server origin now [] None r r h
  by_status false false waits =
      settled_changed server origin now [] None r (with_phase b (Done (now + 5000) status) r)
      (phase_changing origin now r r b (Done (now + 5000) status) (as_cancel (Done (now + 5000) status) (done_by waits)) done_from h)

-- a response
pub response_changed : (server : Server) (origin now : ℕ) (r : OpenRequest) (b : Branch) (status : ℕ) (m : Message) → IsChanging origin now r r
    → IsOpenAt (is_invite r) origin now b
    → (b.is_cancel ≡ false → is_provisional status ≡ true → is_invite r ≡ true → (status == 100) ≡ false → now ≤ origin)
    → HasChanged origin r (responded server now r b status m).request
response_changed server origin now r b status m h on recent = by_cancel b.is_cancel refl where
  by_cancel : (t : Bool) → b.is_cancel ≡ t → HasChanged origin r (cond t (cancel_responded server now r b status m) (target_responded server now r b status m)).request
  by_cancel true is = cancel_changed server origin now r b status m h on is
  by_cancel false is = target_changed server origin now r b status m h on is (recent is)

-- ---- a deadline, a fault, and the caller's CANCEL

-- the deadline of a branch to a target
target_overdue_changing : (origin now : ℕ) (r : OpenRequest) (b : Branch) (phase : Phase) → IsChanging origin now r r → IsChanging origin now r (target_overdue r b phase)
target_overdue_changing origin now r b (Unheard due) h = given_changing origin now r r b 408 h
target_overdue_changing origin now r b (Heard due) h = by_method (is_invite r) refl where
  by_method : (t : Bool) → is_invite r ≡ t → IsChanging origin now r (cond t (record r
      { branches = map (λ (x : Branch). cond (is_same_branch x b) (record x { wants_cancel = true }) x) r.branches }) (given_up b 408 r))
  by_method true is = wanting_changing origin now r r b is h
  by_method false is = given_changing origin now r r b 408 h
target_overdue_changing origin now r b (Cancelled due) h = given_changing origin now r r b 487 h
target_overdue_changing origin now r b (Done due status) h = ended_changing origin now r r b h
target_overdue_changing origin now r b Ended h = h

-- of a branch
pub overdue_changed : (server : Server) (origin now : ℕ) (r : OpenRequest) (b : Branch) → IsChanging origin now r r → HasChanged origin r (overdue server now r b).request
overdue_changed server origin now r b h = settled_changed server origin now [] None r (branch_overdue r b) (by_cancel b.is_cancel) where
  by_cancel : (t : Bool) → IsChanging origin now r (cond t (with_phase b Ended r) (target_overdue r b b.phase))
  by_cancel true = ended_changing origin now r r b h
  by_cancel false = target_overdue_changing origin now r b b.phase h

-- of the answering side
pub side_changed : (server : Server) (origin now : ℕ) (r : OpenRequest) → IsChanging origin now r r → HasChanged origin r (side_overdue server now r).request
side_changed server origin now r h =
    settled_changed server origin now [] None r (record r { side = Closed })
    (record { key_is = refl; number_is = refl; arrival_is = refl; branches = h.branches; side = tt; owes = λ e. absurd (cc) })

-- a send that failed
pub failed_changed : (server : Server) (origin now : ℕ) (r : OpenRequest) (b : Branch) → IsChanging origin now r r
    → HasChanged origin r (send_failed server now r b).request
failed_changed server origin now r b h = settled_changed server origin now [] None r (given_up b 503 r) (given_changing origin now r r b 503 h)

-- a CANCEL of the caller's
pub cancelled_changed : (server : Server) (origin now : ℕ) (r : OpenRequest) → IsChanging origin now r r → HasChanged origin r (cancelled server now r).request
cancelled_changed server origin now r h = settled_changed server origin now [] None r (cond (is_invite r && is_answering r.side) (marked r) r)
    (by_test (is_invite r && is_answering r.side) refl) where
      by_test : (t : Bool) → (is_invite r && is_answering r.side) ≡ t → IsChanging origin now r (cond t (marked r) r)
      by_test true is = marked_changing origin now r r (first_passes (is_invite r) (is_answering r.side) is) h
      by_test false is = h
