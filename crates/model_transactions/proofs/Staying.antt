-- Every event of an open request, and its opening, leaves its parts fitting.
use Rattle.std.proofs.Common.{◌≡◌, ℕ, ◌+◌, Bool, true, false, cond, List, [], ◌∷◌, map, Some, None, is_some, refl, sym, subst, Contains}
use Rattle.std.specs.Prelude.{◌&&◌, ◌||◌}
use Rattle.sip_uri.specs.declared.addr.Addr.{Addr}
use Rattle.sip_message_form.specs.declared.message.Message.{Message}
use Rattle.sip_targets.specs.declared.target.Target.{Target}
use Rattle.sip_context_branches.specs.state.Arrival.{Arrival}
use Rattle.sip_context_branches.specs.state.declared.server.Server.{Server}
use Rattle.sip_context_branches.specs.state.declared.branch.Branch.{Branch}
use Rattle.sip_context_branches.specs.state.declared.branch.Phase.{Phase}
use Rattle.sip_context_branches.specs.state.declared.branch.Phase.TheVariants.{Unheard, Heard, Cancelled, Done, Ended}
use Rattle.sip_context_branches.specs.state.declared.open_request.OpenRequest.{OpenRequest}
use Rattle.sip_context_branches.specs.state.State.{is_invite, is_answering, is_final, is_provisional, is_success, is_decline, first_resend}
use Rattle.sip_context_branches.specs.context_model.Branches.{is_same_branch, linger, with_phase, marked, search_ended, with_answer, heard, invite_heard, other_heard}
use Rattle.sip_context_branches.specs.context_model.Branches.{further, relayed_provisional, relayed_success, target_responded, cancel_responded, responded, given_up}
use Rattle.sip_context_branches.specs.context_model.Branches.{target_overdue, branch_overdue, overdue, side_overdue, send_failed, cancelled, acknowledged, was_refused}
use Rattle.sip_context_branches.specs.context_model.Branches.{told_to, final_of, with_final, acks_of, acknowledged_side, settled}
use Rattle.sip_context_branches.specs.context_model.Sending.{made_answer}
use Rattle.sip_context_branches.specs.state.declared.open_request.Upward.{Upward}
use Rattle.sip_context_branches.specs.state.declared.open_request.Side.TheVariants as To
use Rattle.sip_context_branches.specs.context_model.Opening.{closing, arriving, branch_to, branches_from, dialog_branch, forking, is_tried, trying, tried, opening}
use Rattle.sip_context_branches.specs.context_model.Retransmission.{branch_next, answer_next, resent_branch, with_resend}
use Rattle.model_transactions.specs.Fits.{is_call, PhaseFits, BranchFits, BranchesFit, Fits, IsFinalAnswer, SideFits}
use Rattle.model_transactions.proofs.Phases.{unheard_fits, ended_fits, done_fits, invite_heard_fits, other_heard_fits, again_fits, map_fits, one_fits, phased_fits}
use Rattle.model_transactions.proofs.Phases.{marked_fits, wanted_fits}
use Rattle.model_transactions.proofs.Sides.{coming_fits, closing_fits, closed_fits, acknowledged_fits, later_fits}
use Rattle.model_transactions.proofs.Settled.{MayGo, Nothing, Answers, upward_fits, settled_fits, provisional_goes, success_goes}

-- ---- a branch

-- a branch in another phase of its kind
with_phase_fits : (r : OpenRequest) (b : Branch) (phase : Phase) → PhaseFits (is_call (is_invite r) b.is_cancel) phase b.again → Fits r → Fits (with_phase b phase r)
with_phase_fits r b phase fits all = record { side = all.side; branches = phased_fits (is_invite r) b phase r.branches fits all.branches }

-- one that ends with a status
given_up_fits : (r : OpenRequest) (b : Branch) (status : ℕ) → Fits r → Fits (given_up b status r)
given_up_fits r b status all = record { side = all.side; branches = (with_phase_fits r b Ended (ended_fits (is_call (is_invite r) b.is_cancel) b.again) all).branches }

-- all of an INVITE that are to be cancelled
by_invite : (k : Bool) (r : OpenRequest) → is_invite r ≡ k → k ≡ true → Fits r → Fits (marked r)
by_invite true r is same all = record {
  side = all.side;
  branches = subst (λ (k : Bool). BranchesFit k (marked r).branches) (sym is) (marked_fits r.branches (subst (λ (k : Bool). BranchesFit k r.branches) is all.branches));
}
by_invite false r is same all = absurd (cc)

marked_all : (r : OpenRequest) → is_invite r ≡ true → Fits r → Fits (marked r)
marked_all r is all = by_invite (is_invite r) r refl is all

-- ---- a response

-- the phase of a target's branch once it was heard
heard_phase : (r : OpenRequest) (now status : ℕ) (b : Branch) → b.is_cancel ≡ false → PhaseFits (is_call (is_invite r) b.is_cancel) b.phase b.again
    → PhaseFits (is_call (is_invite r) b.is_cancel) (heard r now status b.phase) b.again
heard_phase r now status b target fits = by_kind (is_invite r) b.is_cancel target fits where
  by_kind : (k c : Bool) → c ≡ false → PhaseFits (is_call k c) b.phase b.again → PhaseFits (is_call k c) (cond k (invite_heard now status b.phase) (other_heard b.phase))
      b.again
  by_kind true false e fits = invite_heard_fits now status b.phase b.again fits
  by_kind false false e fits = other_heard_fits false b.phase b.again fits
  by_kind k true e fits = absurd (cc)

-- the search ends only of an INVITE
ended_search : (r : OpenRequest) (status : ℕ) (after : OpenRequest) → is_invite after ≡ is_invite r → Fits after → Fits (search_ended r status after)
ended_search r status after same all = by_tests (is_invite r) (is_success status || is_decline status) refl where
  by_tests : (t u : Bool) → is_invite r ≡ t → Fits (cond (t && u) (marked after) after)
  by_tests true true is = marked_all after (subst (λ (k : Bool). is_invite after ≡ k) is same) all
  by_tests true false is = all
  by_tests false u is = all

answer_fits : (r : OpenRequest) (b : Branch) (now status : ℕ) (m : Message) → is_provisional status ≡ false → Fits r → Fits (with_answer r b now status m)
answer_fits r b now status m late all =
    let done : Fits (with_phase (told_to r b status m) (Done (now + linger r) status) r) =
    with_phase_fits r (told_to r b status m) (Done (now + linger r) status) (done_fits (is_call (is_invite r) b.is_cancel) (now + linger r) status b.again late) all in
    ended_search r status (with_final (final_of status m) (with_phase (told_to r b status m) (Done (now + linger r) status) r)) refl
    (record { side = done.side; branches = done.branches })

-- a further final response goes up only as a 2xx may
further_goes : (r : OpenRequest) (b : Branch) (phase : Phase) (status : ℕ) (m : Message) → MayGo r (further r b phase status m)
further_goes r b (Unheard due) status m = Nothing
further_goes r b (Heard due) status m = Nothing
further_goes r b (Cancelled due) status m = Nothing
further_goes r b (Done due first) status m = by_test (is_invite r && is_success first) where
  by_test : (t : Bool) → MayGo r (cond t (relayed_success r b status m) None)
  by_test true = success_goes r b status m
  by_test false = Nothing
further_goes r b Ended status m = Nothing

target_fits : (server : Server) (now status : ℕ) (r : OpenRequest) (b : Branch) (m : Message) → b.is_cancel ≡ false → BranchFits (is_invite r) b → Fits r
    → Fits (target_responded server now r b status m).request
target_fits server now status r b m target one all = by_tests (is_provisional status) (is_final b.phase) refl where
  heard_all : Fits (settled server now [] (relayed_provisional r b status m) (with_phase b (heard r now status b.phase) r)).request
  heard_all = settled_fits server now [] (relayed_provisional r b status m) (with_phase b (heard r now status b.phase) r) (provisional_goes r b status m)
      (with_phase_fits r b (heard r now status b.phase) (heard_phase r now status b target one.runs) all)

  by_tests : (t u : Bool) → is_provisional status ≡ t
      → Fits (cond t (settled server now [] (relayed_provisional r b status m) (with_phase b (heard r now status b.phase) r))
      (cond u (settled server now [] (further r b b.phase status m) r) (settled server now (acks_of server r b status m) (relayed_success r b status m)
      (with_answer r b now status m)))).request
  by_tests true u is = heard_all
  by_tests false true is = settled_fits server now [] (further r b b.phase status m) r (further_goes r b b.phase status m) all
  by_tests false false is = settled_fits server now (acks_of server r b status m) (relayed_success r b status m) (with_answer r b now status m)
      (answered_goes is) (answer_fits r b now status m is all) where
        answered_goes : is_provisional status ≡ false → MayGo (with_answer r b now status m) (relayed_success r b status m)
        answered_goes is = by_search (is_invite r && (is_success status || is_decline status)) where
          by_search : (t : Bool) → MayGo (cond t (marked (with_final (final_of status m) (with_phase (told_to r b status m) (Done (now + linger r) status) r)))
              (with_final (final_of status m) (with_phase (told_to r b status m) (Done (now + linger r) status) r))) (relayed_success r b status m)
          by_search true = success_goes r b status m
          by_search false = success_goes r b status m

cancel_fits : (server : Server) (now status : ℕ) (r : OpenRequest) (b : Branch) (m : Message) → BranchFits (is_invite r) b → Fits r
    → Fits (cancel_responded server now r b status m).request
cancel_fits server now status r b m one all = by_tests (is_provisional status) (is_final b.phase) refl where
  by_tests : (t u : Bool) → is_provisional status ≡ t
      → Fits (cond t (settled server now [] None (with_phase b (other_heard b.phase) r))
      (cond u (settled server now [] None r) (settled server now [] None (with_phase b (Done (now + 5000) status) r)))).request
  by_tests true u is = settled_fits server now [] None (with_phase b (other_heard b.phase) r) Nothing
      (with_phase_fits r b (other_heard b.phase) (other_heard_fits (is_call (is_invite r) b.is_cancel) b.phase b.again one.runs) all)
  by_tests false true is = settled_fits server now [] None r Nothing all
  by_tests false false is = settled_fits server now [] None (with_phase b (Done (now + 5000) status) r) Nothing
      (with_phase_fits r b (Done (now + 5000) status) (done_fits (is_call (is_invite r) b.is_cancel) (now + 5000) status b.again is) all)

pub responded_fits : (server : Server) (now status : ℕ) (r : OpenRequest) (b : Branch) (m : Message) → Fits r → Contains r.branches b
    → Fits (responded server now r b status m).request
responded_fits server now status r b m all there = by_kind b.is_cancel refl where
  one : BranchFits (is_invite r) b
  one = one_fits (is_invite r) r.branches b all.branches there

  by_kind : (c : Bool) → b.is_cancel ≡ c → Fits (cond c (cancel_responded server now r b status m) (target_responded server now r b status m)).request
  by_kind true is = cancel_fits server now status r b m one all
  by_kind false is = target_fits server now status r b m is one all

-- ---- deadlines

-- the deadline of a branch to a target that was heard: an INVITE is to be cancelled
wanting_fits : (r : OpenRequest) (b : Branch) → b.is_cancel ≡ false → Fits r
    → Fits (cond (is_invite r) (record r { branches = map (λ (x : Branch). cond (is_same_branch x b) (record x { wants_cancel = true }) x) r.branches })
    (given_up b 408 r))
wanting_fits r b target all = by_kind (is_invite r) refl where
  wanting : OpenRequest
  wanting = record r { branches = map (λ (x : Branch). cond (is_same_branch x b) (record x { wants_cancel = true }) x) r.branches }

  by_kind : (k : Bool) → is_invite r ≡ k → Fits (cond k wanting (given_up b 408 r))
  by_kind true is = record {
    side = all.side;
    branches = subst (λ (k : Bool). BranchesFit k wanting.branches) (sym is) (wanted_fits b r.branches target
        (subst (λ (k : Bool). BranchesFit k r.branches) is all.branches));
  }
  by_kind false is = given_up_fits r b 408 all

target_overdue_fits : (r : OpenRequest) (b : Branch) (phase : Phase) → b.is_cancel ≡ false → Fits r → Fits (target_overdue r b phase)
target_overdue_fits r b (Unheard due) target all = given_up_fits r b 408 all
target_overdue_fits r b (Heard due) target all = wanting_fits r b target all
target_overdue_fits r b (Cancelled due) target all = given_up_fits r b 487 all
target_overdue_fits r b (Done due status) target all = with_phase_fits r b Ended (ended_fits (is_call (is_invite r) b.is_cancel) b.again) all
target_overdue_fits r b Ended target all = all

branch_overdue_fits : (r : OpenRequest) (b : Branch) → Fits r → Fits (branch_overdue r b)
branch_overdue_fits r b all = by_kind b.is_cancel refl where
  by_kind : (c : Bool) → b.is_cancel ≡ c → Fits (cond c (with_phase b Ended r) (target_overdue r b b.phase))
  by_kind true is = with_phase_fits r b Ended (ended_fits (is_call (is_invite r) b.is_cancel) b.again) all
  by_kind false is = target_overdue_fits r b b.phase is all

pub overdue_fits : (server : Server) (now : ℕ) (r : OpenRequest) (b : Branch) → Fits r → Fits (overdue server now r b).request
overdue_fits server now r b all = settled_fits server now [] None (branch_overdue r b) Nothing (branch_overdue_fits r b all)

pub side_overdue_fits : (server : Server) (now : ℕ) (r : OpenRequest) → Fits r → Fits (side_overdue server now r).request
side_overdue_fits server now r all = settled_fits server now [] None (record r { side = To.Closed }) Nothing
    (record { side = closed_fits (is_invite r) r.answer r.again; branches = all.branches })

-- ---- faults, CANCEL and ACK of the caller's

pub send_failed_fits : (server : Server) (now : ℕ) (r : OpenRequest) (b : Branch) → Fits r → Fits (send_failed server now r b).request
send_failed_fits server now r b all = settled_fits server now [] None (given_up b 503 r) Nothing (given_up_fits r b 503 all)

pub cancelled_fits_all : (server : Server) (now : ℕ) (r : OpenRequest) → Fits r → Fits (cancelled server now r).request
cancelled_fits_all server now r all = by_tests (is_invite r) (is_answering r.side) refl where
  by_tests : (t u : Bool) → is_invite r ≡ t → Fits (settled server now [] None (cond (t && u) (marked r) r)).request
  by_tests true true is = settled_fits server now [] None (marked r) Nothing (marked_all r is all)
  by_tests true false is = settled_fits server now [] None r Nothing all
  by_tests false u is = settled_fits server now [] None r Nothing all

pub acknowledged_all : (now : ℕ) (r : OpenRequest) → Fits r → Fits (acknowledged now r)
acknowledged_all now r all = by_tests (is_invite r) (was_refused r.answer) refl refl where
  acked : OpenRequest
  acked = record r { side = acknowledged_side now r.side }

  by_tests : (t u : Bool) → is_invite r ≡ t → was_refused r.answer ≡ u → Fits (cond (t && u) acked r)
  by_tests true true is refused = record {
    side = subst (λ (k : Bool). SideFits k acked.side r.answer r.again) (sym is)
        (acknowledged_fits now r.side r.answer r.again refused (subst (λ (k : Bool). SideFits k r.side r.answer r.again) is all.side));
    branches = all.branches;
  }
  by_tests true false is refused = all
  by_tests false u is refused = all

-- ---- opening

pub closing_all : (a : Arrival) (m : Message) (status : ℕ) (text : List ℕ) → IsFinalAnswer status → Fits (closing a m status text)
closing_all a m status text late = record {
  side = closing_fits (is_invite (arriving a m)) (a.now + 32000) (record { status = status; text = text }) (first_resend a.now)
      late;
  branches = tt;
}

-- a branch to a target
branch_to_fits : (invite : Bool) (now number : ℕ) (t : Target) → BranchFits invite (branch_to now number t)
branch_to_fits invite now number t = record { runs = by_test (is_some t.address); spared = λ other. refl } where
  by_test : (x : Bool) → PhaseFits invite (cond x (Unheard (now + 32000)) Ended) (first_resend now)
  by_test true = unheard_fits invite (now + 32000) (first_resend now)
  by_test false = ended_fits invite (first_resend now)

branches_from_fit : (invite : Bool) (now number : ℕ) (ts : List Target) → BranchesFit invite (branches_from now number ts)
branches_from_fit invite now number [] = tt
branches_from_fit invite now number (t ∷ ts) = (branch_to_fits invite now number t, branches_from_fit invite now (number + 1) ts)

pub sent_fits : (a : Arrival) (m : Message) (targets : List Target) → Fits (forking a m (branches_from a.now 1 targets))
sent_fits a m targets = record {
  side = coming_fits (is_invite (arriving a m)) (first_resend a.now);
  branches = branches_from_fit (is_invite (arriving a m)) a.now 1 targets;
}

pub within_fits : (server : Server) (a : Arrival) (m : Message) (address : Addr) → Fits (forking a m (dialog_branch server a.now m address ∷ []))
within_fits server a m address = record {
  side = coming_fits (is_invite (arriving a m)) (first_resend a.now);
  branches = (record { runs = unheard_fits (is_invite (arriving a m)) (a.now + 32000) (first_resend a.now); spared = λ other. refl }, tt);
}

-- at most one
abbrev IsShort : List Upward → Type 0
IsShort [] = Unit {0}
IsShort (u ∷ []) = Unit {0}
IsShort (u ∷ v ∷ us) = ⊥

-- the 100 of an INVITE goes while there is no other answer
tried_fits : (now : ℕ) (us : List Upward) (r : OpenRequest) → IsShort us → is_answering r.side ≡ true → Fits r → Fits (tried now us r)
tried_fits now [] r short is all = all
tried_fits now (u ∷ []) r short is all = upward_fits now (Some u) r (Answers u is) all
tried_fits now (u ∷ v ∷ us) r short is all = absurd short

pub begun_fits : (server : Server) (now : ℕ) (r : OpenRequest) → is_answering r.side ≡ true → Fits r → Fits (opening server now r).request
begun_fits server now r is all = settled_fits server now [] None (tried now (trying server r) r) Nothing
    (tried_fits now (trying server r) r (by_test (is_tried r)) is all) where
      first : Upward
      first = record { status = 100; message = made_answer server r.number r.request.message r.request.source 100 []; target = None }

      by_test : (t : Bool) → IsShort (cond t (first ∷ []) [])
      by_test true = tt
      by_test false = tt

-- ---- what goes again

pub resent_fits : (r : OpenRequest) (b : Branch) → Fits r → Fits (with_resend b r)
resent_fits r b all = record { side = all.side; branches = map_fits (is_invite r) (resent_branch b (branch_next r b)) r.branches each all.branches } where
  each : (x : Branch) → BranchFits (is_invite r) x → BranchFits (is_invite r) (resent_branch b (branch_next r b) x)
  each x before = by_test (is_same_branch x b) where
    by_test : (t : Bool) → BranchFits (is_invite r) (cond t (record x { again = branch_next r b }) x)
    by_test true = record { runs = again_fits (is_call (is_invite r) x.is_cancel) x.phase x.again (branch_next r b) before.runs; spared = before.spared }
    by_test false = before

pub repeated_fits : (r : OpenRequest) → Fits r → Fits (record r { again = answer_next r })
repeated_fits r all = record { side = later_fits (is_invite r) r.side r.answer r.again (answer_next r) all.side; branches = all.branches }
