-- What every event leaves of an open request is near the event's moment.
use Rattle.std.proofs.Common.{◌≡◌, ℕ, ◌+◌, ◌*◌, ◌≤◌, Bool, true, false, cond, List, [], ◌∷◌, map, Option, Some, None, arith, min}
use Rattle.std.specs.Prelude.{◌&&◌, ◌||◌, ◌==◌, not}
use Rattle.std.specs.List.{AllByRecursion}
use Rattle.sip_message_form.specs.declared.message.Message.{Message}
use Rattle.sip_best.specs.declared.final_answer.Final.{Final}
use Rattle.sip_event.specs.declared.packet.Packet.{Packet}
use Rattle.sip_context_branches.specs.state.State.{is_invite, is_final, is_answering, is_success, is_decline, is_provisional}
use Rattle.sip_context_branches.specs.state.declared.branch.Branch.{Branch}
use Rattle.sip_context_branches.specs.state.declared.branch.Phase.{Phase}
use Rattle.sip_context_branches.specs.state.declared.branch.Phase.TheVariants.{Unheard, Heard, Cancelled, Done, Ended}
use Rattle.sip_context_branches.specs.state.declared.open_request.OpenRequest.{OpenRequest}
use Rattle.sip_context_branches.specs.state.declared.open_request.Side.{Side}
use Rattle.sip_context_branches.specs.state.declared.open_request.Side.TheVariants.{Answering, Closing, Acknowledged, Closed}
use Rattle.sip_context_branches.specs.state.declared.open_request.Upward.{Upward}
use Rattle.sip_context_branches.specs.state.declared.resend.Resend.{Resend}
use Rattle.sip_context_branches.specs.state.declared.server.Server.{Server}
use Rattle.sip_context_branches.specs.context_model.Branches.{is_same_branch, turned, with_phase, with_final, marked_branch, marked, given_up, answered, best_upward}
use Rattle.sip_context_branches.specs.context_model.Branches.{is_cancellable, cancel_branch, held_branch, with_cancel, with_cancels, after_upward, settled, invite_heard}
use Rattle.sip_context_branches.specs.context_model.Branches.{other_heard, heard, relayed_provisional, relayed_success, linger, final_of, search_ended, told_to}
use Rattle.sip_context_branches.specs.context_model.Branches.{with_answer, acks_of, further, target_responded, cancel_responded, responded, target_overdue}
use Rattle.sip_context_branches.specs.context_model.Branches.{branch_overdue, overdue, side_overdue, is_unheard, send_failed, cancelled, acknowledged_side, was_refused}
use Rattle.sip_context_branches.specs.context_model.Branches.{acknowledged}
use Rattle.sip_context_branches.specs.context_model.Retransmission.{resend_after, branch_next, answer_next, insists, goes_again, answer_due, branch_due, resent_branch}
use Rattle.sip_context_branches.specs.context_model.Retransmission.{with_resend, IsResent, OfAnswer, OfRequest}
use Rattle.model_transactions.specs.Near.{IsNear, IsPhaseNear, IsSideNear, IsBranchWithin, IsWithin}
use Rattle.model_transactions.proofs.Lists.{all_map, all_flat_map, all_weaker}
use Rattle.model_transactions.proofs.Near.{near_earlier}

module _ (now : ℕ) where
  -- ---- moments that are set

  pub at_500 : now + 500 ≤ now + 185000
  at_500 = omega arith

  at_5000 : now + 5000 ≤ now + 185000
  at_5000 = omega arith

  pub at_32000 : now + 32000 ≤ now + 185000
  at_32000 = omega arith

  at_185000 : now + 185000 ≤ now + 185000
  at_185000 = omega arith

  -- Timer C of what is sent now
  pub call_at : now + 32000 + 153000 ≤ now + 185000
  call_at = omega arith

  -- ---- a request, part by part

  -- a change of each branch
  with_branches : (edit : Branch → Branch) → ((x : Branch) → IsBranchWithin now x → IsBranchWithin now (edit x)) → (r : OpenRequest) → IsWithin now r
      → IsWithin now (record r { branches = map edit r.branches })
  with_branches edit keeps r w =
      record {
        side_near = w.side_near;
        again_near = w.again_near;
        branches_within = all_map (IsBranchWithin now) edit r.branches (all_weaker (IsBranchWithin now) (λ x. IsBranchWithin now (edit x)) keeps r.branches
            w.branches_within);
      }

  -- a branch in another phase
  turned_near : (b : Branch) (phase : Phase) → IsPhaseNear now phase → IsNear now b.again.due → (x : Branch) (t : Bool) → IsBranchWithin now x
      → IsBranchWithin now (cond t (turned b phase x) x)
  turned_near b phase e a x true w = record { phase_near = e; again_near = a }
  turned_near b phase e a x false w = w

  phase_kept : (b : Branch) (phase : Phase) → IsPhaseNear now phase → IsNear now b.again.due → (r : OpenRequest) → IsWithin now r → IsWithin now (with_phase b phase r)
  phase_kept b phase e a r w = with_branches (λ x. cond (is_same_branch x b) (turned b phase x) x) (λ x. turned_near b phase e a x (is_same_branch x b)) r w

  final_kept : (f : Final) (r : OpenRequest) → IsWithin now r → IsWithin now (with_final f r)
  final_kept f r w = record { side_near = w.side_near; again_near = w.again_near; branches_within = w.branches_within }

  -- a branch that is to be cancelled
  wanted_near : (x : Branch) (t : Bool) → IsBranchWithin now x → IsBranchWithin now (cond t x (record x { wants_cancel = true }))
  wanted_near x true w = w
  wanted_near x false w = record { phase_near = w.phase_near; again_near = w.again_near }

  marked_kept : (r : OpenRequest) → IsWithin now r → IsWithin now (marked r)
  marked_kept r w = with_branches marked_branch (λ x. wanted_near x (x.is_cancel || is_final x.phase)) r w

  given_up_kept : (b : Branch) (status : ℕ) → IsBranchWithin now b → (r : OpenRequest) → IsWithin now r → IsWithin now (given_up b status r)
  given_up_kept b status h r w = final_kept (record { status = status; message = None }) (with_phase b Ended r) (phase_kept b Ended tt h.again_near r w)

  -- ---- what follows every event

  -- an answer begins to close the side, or leaves it
  closing_near : (t : Bool) (side : Side) → IsSideNear now side → IsSideNear now (cond t (Closing (now + 32000)) side)
  closing_near true side e = at_32000
  closing_near false side e = e

  pub answered_kept : (u : Upward) (r : OpenRequest) → IsWithin now r → IsWithin now (answered now u r)
  answered_kept u r w =
      record {
        side_near = closing_near (is_answering r.side && not (is_provisional u.status)) r.side w.side_near;
        again_near = at_500;
        branches_within = w.branches_within;
      }

  upward_kept : (o : Option Upward) (r : OpenRequest) → IsWithin now r → IsWithin now (after_upward now o r)
  upward_kept None r w = w
  upward_kept (Some u) r w = answered_kept u r w

  -- a branch that is sent its CANCEL, and the CANCEL
  cancel_near : (b : Branch) (t : Bool) → IsBranchWithin now b → AllByRecursion (IsBranchWithin now) (cond t (held_branch now b ∷ cancel_branch now b ∷ []) (b ∷ []))
  cancel_near b true w = (record { phase_near = at_32000; again_near = w.again_near }, (record { phase_near = call_at; again_near = at_500 }, tt))
  cancel_near b false w = (w, tt)

  cancels_kept : (r : OpenRequest) → IsWithin now r → IsWithin now (with_cancels now r)
  cancels_kept r w =
      record {
        side_near = w.side_near;
        again_near = w.again_near;
        branches_within =
            all_flat_map (IsBranchWithin now) (with_cancel now) r.branches
            (all_weaker (IsBranchWithin now) (λ b. AllByRecursion (IsBranchWithin now) (with_cancel now b)) (λ b. cancel_near b (is_cancellable b)) r.branches
            w.branches_within);
      }

  pub settled_kept : (server : Server) (acks : List Packet) (relayed : Option Upward) (r : OpenRequest) → IsWithin now r
      → IsWithin now (settled server now acks relayed r).request
  settled_kept server acks relayed r w =
      let told : OpenRequest = after_upward now relayed r in
      cancels_kept (after_upward now (best_upward server told) told) (upward_kept (best_upward server told) told (upward_kept relayed r w))

  -- ---- a response

  -- Timer C stays at a 100, and is set anew by 101 to 199
  invite_heard_near : (status : ℕ) (phase : Phase) → IsPhaseNear now phase → IsPhaseNear now (invite_heard now status phase)
  invite_heard_near status (Unheard due) e = by_test (status == 100) where
    by_test : (t : Bool) → IsPhaseNear now (cond t (Heard (due + 153000)) (Heard (now + 185000)))
    by_test true = e
    by_test false = at_185000
  invite_heard_near status (Heard due) e = by_test (status == 100) where
    by_test : (t : Bool) → IsPhaseNear now (cond t (Heard due) (Heard (now + 185000)))
    by_test true = e
    by_test false = at_185000
  invite_heard_near status (Cancelled due) e = e
  invite_heard_near status (Done due first) e = e
  invite_heard_near status Ended e = e

  other_heard_near : (phase : Phase) → IsPhaseNear now phase → IsPhaseNear now (other_heard phase)
  other_heard_near (Unheard due) e = near_earlier now due e
  other_heard_near (Heard due) e = e
  other_heard_near (Cancelled due) e = e
  other_heard_near (Done due first) e = e
  other_heard_near Ended e = e

  heard_near : (r : OpenRequest) (status : ℕ) (phase : Phase) → IsPhaseNear now phase → IsPhaseNear now (heard r now status phase)
  heard_near r status phase e = by_kind (is_invite r) where
    by_kind : (t : Bool) → IsPhaseNear now (cond t (invite_heard now status phase) (other_heard phase))
    by_kind true = invite_heard_near status phase e
    by_kind false = other_heard_near phase e

  linger_near : (r : OpenRequest) → IsNear now (now + linger r)
  linger_near r = by_kind (is_invite r) where
    by_kind : (t : Bool) → IsNear now (now + cond t 32000 5000)
    by_kind true = at_32000
    by_kind false = at_5000

  search_kept : (q : OpenRequest) (status : ℕ) (r : OpenRequest) → IsWithin now r → IsWithin now (search_ended q status r)
  search_kept q status r w = by_test (is_invite q && (is_success status || is_decline status)) where
    by_test : (t : Bool) → IsWithin now (cond t (marked r) r)
    by_test true = marked_kept r w
    by_test false = w

  answer_kept : (r : OpenRequest) (b : Branch) (status : ℕ) (m : Message) → IsBranchWithin now b → IsWithin now r → IsWithin now (with_answer r b now status m)
  answer_kept r b status m h w =
      let phase : Phase = Done (now + linger r) status in
      let done : OpenRequest = with_phase (told_to r b status m) phase r in
      search_kept r status (with_final (final_of status m) done) (final_kept (final_of status m) done
      (phase_kept (told_to r b status m) phase (linger_near r) h.again_near r w))

  target_kept : (server : Server) (r : OpenRequest) (b : Branch) (status : ℕ) (m : Message) → IsBranchWithin now b → IsWithin now r
      → IsWithin now (target_responded server now r b status m).request
  target_kept server r b status m h w = by_tests (is_provisional status) (is_final b.phase) where
    by_tests : (t u : Bool)
        → IsWithin now (cond t (settled server now [] (relayed_provisional r b status m) (with_phase b (heard r now status b.phase) r))
        (cond u (settled server now [] (further r b b.phase status m) r) (settled server now (acks_of server r b status m) (relayed_success r b status m)
        (with_answer r b now status m)))).request
    by_tests true u = settled_kept server [] (relayed_provisional r b status m) (with_phase b (heard r now status b.phase) r)
        (phase_kept b (heard r now status b.phase) (heard_near r status b.phase h.phase_near) h.again_near r w)
    by_tests false true = settled_kept server [] (further r b b.phase status m) r w
    by_tests false false = settled_kept server (acks_of server r b status m) (relayed_success r b status m) (with_answer r b now status m) (answer_kept r b status m h w)

  cancel_kept : (server : Server) (r : OpenRequest) (b : Branch) (status : ℕ) (m : Message) → IsBranchWithin now b → IsWithin now r
      → IsWithin now (cancel_responded server now r b status m).request
  cancel_kept server r b status m h w = by_tests (is_provisional status) (is_final b.phase) where
    by_tests : (t u : Bool)
        → IsWithin now (cond t (settled server now [] None (with_phase b (other_heard b.phase) r))
        (cond u (settled server now [] None r) (settled server now [] None (with_phase b (Done (now + 5000) status) r)))).request
    by_tests true u = settled_kept server [] None (with_phase b (other_heard b.phase) r)
        (phase_kept b (other_heard b.phase) (other_heard_near b.phase h.phase_near) h.again_near r w)
    by_tests false true = settled_kept server [] None r w
    by_tests false false = settled_kept server [] None (with_phase b (Done (now + 5000) status) r) (phase_kept b (Done (now + 5000) status) at_5000 h.again_near r w)

  pub responded_kept : (server : Server) (r : OpenRequest) (b : Branch) (status : ℕ) (m : Message) → IsBranchWithin now b → IsWithin now r
      → IsWithin now (responded server now r b status m).request
  responded_kept server r b status m h w = by_kind b.is_cancel where
    by_kind : (t : Bool) → IsWithin now (cond t (cancel_responded server now r b status m) (target_responded server now r b status m)).request
    by_kind true = cancel_kept server r b status m h w
    by_kind false = target_kept server r b status m h w

  -- ---- a deadline

  -- a branch that is to be cancelled, if it is this one
  this_near : (x : Branch) (t : Bool) → IsBranchWithin now x → IsBranchWithin now (cond t (record x { wants_cancel = true }) x)
  this_near x true w = record { phase_near = w.phase_near; again_near = w.again_near }
  this_near x false w = w

  target_passed : (r : OpenRequest) (b : Branch) (phase : Phase) → IsBranchWithin now b → IsWithin now r → IsWithin now (target_overdue r b phase)
  target_passed r b (Unheard due) h w = given_up_kept b 408 h r w
  target_passed r b (Heard due) h w = by_kind (is_invite r) where
    by_kind : (t : Bool) → IsWithin now (cond t (record r { branches = map (λ (x : Branch). cond (is_same_branch x b) (record x { wants_cancel = true }) x) r.branches })
        (given_up b 408 r))
    by_kind true = with_branches (λ x. cond (is_same_branch x b) (record x { wants_cancel = true }) x) (λ x. this_near x (is_same_branch x b)) r w
    by_kind false = given_up_kept b 408 h r w
  target_passed r b (Cancelled due) h w = given_up_kept b 487 h r w
  target_passed r b (Done due status) h w = phase_kept b Ended tt h.again_near r w
  target_passed r b Ended h w = w

  branch_passed : (r : OpenRequest) (b : Branch) → IsBranchWithin now b → IsWithin now r → IsWithin now (branch_overdue r b)
  branch_passed r b h w = by_kind b.is_cancel where
    by_kind : (t : Bool) → IsWithin now (cond t (with_phase b Ended r) (target_overdue r b b.phase))
    by_kind true = phase_kept b Ended tt h.again_near r w
    by_kind false = target_passed r b b.phase h w

  pub overdue_kept : (server : Server) (r : OpenRequest) (b : Branch) → IsBranchWithin now b → IsWithin now r → IsWithin now (overdue server now r b).request
  overdue_kept server r b h w = settled_kept server [] None (branch_overdue r b) (branch_passed r b h w)

  pub side_overdue_kept : (server : Server) (r : OpenRequest) → IsWithin now r → IsWithin now (side_overdue server now r).request
  side_overdue_kept server r w = settled_kept server [] None (record r { side = Closed })
      (record { side_near = tt; again_near = w.again_near; branches_within = w.branches_within })

  -- ---- a fault, and what the caller sends

  pub failed_kept : (server : Server) (r : OpenRequest) (b : Branch) → IsBranchWithin now b → IsWithin now r → IsWithin now (send_failed server now r b).request
  failed_kept server r b h w = settled_kept server [] None (given_up b 503 r) (given_up_kept b 503 h r w)

  pub cancelled_kept : (server : Server) (r : OpenRequest) → IsWithin now r → IsWithin now (cancelled server now r).request
  cancelled_kept server r w = by_test (is_invite r && is_answering r.side) where
    by_test : (t : Bool) → IsWithin now (settled server now [] None (cond t (marked r) r)).request
    by_test true = settled_kept server [] None (marked r) (marked_kept r w)
    by_test false = settled_kept server [] None r w

  acked_side : (side : Side) → IsSideNear now side → IsSideNear now (acknowledged_side now side)
  acked_side Answering e = e
  acked_side (Closing due) e = at_5000
  acked_side (Acknowledged due) e = e
  acked_side Closed e = e

  pub acknowledged_kept : (r : OpenRequest) → IsWithin now r → IsWithin now (acknowledged now r)
  acknowledged_kept r w = by_test (is_invite r && was_refused r.answer) where
    by_test : (t : Bool) → IsWithin now (cond t (record r { side = acknowledged_side now r.side }) r)
    by_test true = record { side_near = acked_side r.side w.side_near; again_near = w.again_near; branches_within = w.branches_within }
    by_test false = w

  -- ---- what goes again

  -- it goes next at most so long after a moment that has come
  next_near : (most : ℕ) (x : Resend) → most ≤ 32000 → x.due ≤ now → IsNear now (resend_after most x).due
  next_near most x few came = sum_near x.due (min (2 * x.wait) most) came (omega arith) where
    sum_near : (due wait : ℕ) → due ≤ now → wait ≤ 32000 → due + wait ≤ now + 185000
    sum_near due wait e f = omega arith

  branch_next_near : (r : OpenRequest) (b : Branch) → b.again.due ≤ now → IsNear now (branch_next r b).due
  branch_next_near r b came = by_tests (is_invite r && not b.is_cancel) (is_unheard b.phase) where
    steady_near : (due : ℕ) → due ≤ now → due + 4000 ≤ now + 185000
    steady_near due e = omega arith

    by_tests : (t u : Bool) → IsNear now (cond t (resend_after 32000 b.again) (cond u (resend_after 4000 b.again) (record { due = b.again.due + 4000; wait = 4000 }))).due
    by_tests true u = next_near 32000 b.again (omega arith) came
    by_tests false true = next_near 4000 b.again (omega arith) came
    by_tests false false = steady_near b.again.due came

  again_near : (next : Resend) → IsNear now next.due → (x : Branch) (t : Bool) → IsBranchWithin now x → IsBranchWithin now (cond t (record x { again = next }) x)
  again_near next e x true w = record { phase_near = w.phase_near; again_near = e }
  again_near next e x false w = w

  -- a moment that counts is this one
  same_moment : (due again : ℕ) (t : Bool) → cond t (Some again) None ≡ Some due → due ≤ now → again ≤ now
  same_moment due again true is came = let e : again ≡ due = cc in omega arith
  same_moment due again false is came = absurd (cc)

  pub answer_again_kept : (due : ℕ) (r : OpenRequest) → due ≤ now → answer_due r ≡ Some due → IsWithin now r → IsWithin now (record r { again = answer_next r })
  answer_again_kept due r came is w =
      record {
        side_near = w.side_near;
        again_near = next_near 4000 r.again (omega arith) (same_moment due r.again.due (insists r) is came);
        branches_within = w.branches_within;
      }

  pub branch_again_kept : (due : ℕ) (r : OpenRequest) (b : Branch) → due ≤ now → branch_due r b ≡ Some due → IsWithin now r → IsWithin now (with_resend b r)
  branch_again_kept due r b came is w =
      let e : IsNear now (branch_next r b).due = branch_next_near r b (same_moment due b.again.due (goes_again r b) is came) in
      with_branches (resent_branch b (branch_next r b)) (λ x. again_near (branch_next r b) e x (is_same_branch x b)) r w

  pub again_kept : (server : Server) (due : ℕ) (r next : OpenRequest) (packets : List Packet) → due ≤ now → IsResent server due r packets next → IsWithin now r
      → IsWithin now next
  again_kept server due r _ _ came (OfAnswer is) w = answer_again_kept due r came is w
  again_kept server due r _ _ came (OfRequest b there is) w = branch_again_kept due r b came is w
