-- What a change of an open request keeps: how it came, and the numbers of its branches.
use Rattle.std.proofs.Common.{◌≡◌, ℕ, ◌≤◌, ◌+◌, Bool, true, false, ◌&&◌, ◌||◌, cond, List, [], ◌∷◌, ◌++◌, map, flat_map, refl, sym, subst, Option, Some, None}
use Rattle.std.specs.List.{AllByRecursion}
use Rattle.sip_message_form.specs.declared.message.Message.{Message}
use Rattle.sip_best.specs.declared.final_answer.Final.{Final}
use Rattle.sip_event.specs.declared.packet.Packet.{Packet}
use Rattle.sip_model.specs.state.declared.server.Server.{Server}
use Rattle.sip_model.specs.state.declared.branch.Branch.{Branch}
use Rattle.sip_model.specs.state.declared.branch.Phase.{Phase}
use Rattle.sip_model.specs.state.declared.branch.Phase.TheVariants.{Unheard, Heard, Cancelled, Done, Ended}
use Rattle.sip_model.specs.state.declared.resend.Resend.{Resend}
use Rattle.sip_model.specs.state.declared.open_request.Side.{Side}
use Rattle.sip_model.specs.state.declared.open_request.Side.TheVariants.{Closed}
use Rattle.sip_model.specs.state.declared.open_request.OpenRequest.{OpenRequest}
use Rattle.sip_model.specs.state.declared.open_request.Upward.{Upward}
use Rattle.sip_model.specs.state.declared.proxy_state.ProxyState.{ProxyState}
use Rattle.sip_model.specs.state.State.{is_invite, is_final, is_answering, is_success, is_decline, is_provisional}
use Rattle.sip_model.specs.context_model.Branches.{Change, is_same_branch, turned, phased, with_phase, with_final, marked_branch, marked, given_up, best_upward}
use Rattle.sip_model.specs.context_model.Branches.{is_cancellable, cancel_branch, held_branch, with_cancel, after_upward, upward_list, settled, heard, other_heard}
use Rattle.sip_model.specs.context_model.Branches.{relayed_provisional, relayed_success, final_of, linger, told_to, with_answer, acks_of, further, target_responded}
use Rattle.sip_model.specs.context_model.Branches.{cancel_responded, responded, target_overdue, branch_overdue, send_failed, cancelled, acknowledged_side, was_refused}
use Rattle.sip_model.specs.context_model.Branches.{acknowledged, answered}
use Rattle.sip_model.specs.context_model.Retransmission.{branch_next, resent_branch, IsResent, OfAnswer, OfRequest}
use Rattle.sip_model.specs.steps_model.Step.{Act, IsOverdue, OfSide, OfBranch}
use Rattle.sip_model.specs.Parts.{IsChangeAt, ByResponse, ByDeadline, ByFault, ByCancel}
use Rattle.sip_model.proofs.Places.{all_weaker}
use Rattle.model_laws.proofs.Lists.{all_left, all_right}
use Rattle.sip_model.proofs.Lists.{all_flat_map, all_map}

-- ---- branches

-- branches have numbers from 1 on
abbrev pub AreNumbered : List Branch → Type 0
AreNumbered bs = AllByRecursion (λ (b : Branch). 1 ≤ b.number) bs

-- branches whose numbers are from 1 on, if those of others are
abbrev pub KeepNumbers : List Branch → List Branch → Type 0
KeepNumbers old new = AreNumbered old → AreNumbered new

-- the same branches
pub same_numbers : (bs : List Branch) → KeepNumbers bs bs
same_numbers bs h = h

-- a change of each that leaves its number
pub edited_numbers : (edit : Branch → Branch) → ((b : Branch) → (edit b).number ≡ b.number) → (bs : List Branch) → KeepNumbers bs (map edit bs)
edited_numbers edit same bs h =
    all_map (λ (b : Branch). 1 ≤ b.number) edit bs (all_weaker (λ (b : Branch). 1 ≤ b.number) (λ (b : Branch). 1 ≤ (edit b).number) bs
    (λ b own. subst (λ (n : ℕ). 1 ≤ n) (sym (same b)) own) h)

-- of two branches with a number either has it
either_number : (t : Bool) (x y : Branch) (n : ℕ) → x.number ≡ n → y.number ≡ n → (cond t x y).number ≡ n
either_number true x y n h k = h
either_number false x y n h k = k

-- a branch in another phase
phased_number : (told : Branch) (phase : Phase) (x : Branch) → (phased told phase x).number ≡ x.number
phased_number told phase x = either_number (is_same_branch x told) (turned told phase x) x x.number refl refl

-- a branch that is to be cancelled
marked_number : (x : Branch) → (marked_branch x).number ≡ x.number
marked_number x = either_number (x.is_cancel || is_final x.phase) x (record x { wants_cancel = true }) x.number refl refl

-- a branch whose CANCEL is wanted
wanting_number : (told x : Branch) → (cond (is_same_branch x told) (record x { wants_cancel = true }) x).number ≡ x.number
wanting_number told x = either_number (is_same_branch x told) (record x { wants_cancel = true }) x x.number refl refl

-- a branch that sent again
resent_number : (told : Branch) (next : Resend) (x : Branch) → (resent_branch told next x).number ≡ x.number
resent_number told next x = either_number (is_same_branch x told) (record x { again = next }) x x.number refl refl

-- the CANCEL of a branch has its number
cancels_numbers : (now : ℕ) (bs : List Branch) → KeepNumbers bs (flat_map (with_cancel now) bs)
cancels_numbers now bs h =
    all_flat_map (λ (b : Branch). 1 ≤ b.number) (with_cancel now) bs
    (all_weaker (λ (b : Branch). 1 ≤ b.number) (λ (b : Branch). AreNumbered (with_cancel now b)) bs (λ b own. by_test b own (is_cancellable b)) h) where
      by_test : (b : Branch) → 1 ≤ b.number → (t : Bool) → AreNumbered (cond t (held_branch now b ∷ cancel_branch now b ∷ []) (b ∷ []))
      by_test b own true = (own, (own, tt))
      by_test b own false = (own, tt)

-- ---- requests

-- What depends on how a request came, on its last answer and on the numbers of its branches alone.
module _ (P : OpenRequest → Type 0)
    (keeps : (r : OpenRequest) (side : Side) (again : Resend) (finals : List Final) (branches : List Branch) → KeepNumbers r.branches branches → P r
    → P (record r { side = side; again = again; finals = finals; branches = branches })) where
  -- it is kept where an answer goes to the caller
  abbrev pub Tells : ℕ → Upward → Type 0
  Tells now u = (r : OpenRequest) → P r → P (answered now u r)

  -- a change keeps it where its answers do
  abbrev pub Keeps : ℕ → Change → Type 0
  Keeps now change = AllByRecursion (Tells now) change.upward → P change.request

  -- of either of two requests
  either : (t : Bool) (r s : OpenRequest) → P r → P s → P (cond t r s)
  either true r s h k = h
  either false r s h k = k

  -- of either of two changes
  either_change : (now : ℕ) (t : Bool) (x y : Change) → Keeps now x → Keeps now y → Keeps now (cond t x y)
  either_change now true x y h k = h
  either_change now false x y h k = k

  -- with other branches
  branches_kept : (r : OpenRequest) (branches : List Branch) → KeepNumbers r.branches branches → P r → P (record r { branches = branches })
  branches_kept r branches numbers h = keeps r r.side r.again r.finals branches numbers h

  -- with other final answers
  finals_kept : (r : OpenRequest) (finals : List Final) → P r → P (record r { finals = finals })
  finals_kept r finals h = keeps r r.side r.again finals r.branches (same_numbers r.branches) h

  -- with another answering side
  pub side_kept : (r : OpenRequest) (side : Side) → P r → P (record r { side = side })
  side_kept r side h = keeps r side r.again r.finals r.branches (same_numbers r.branches) h

  -- with a branch in another phase
  phase_kept : (told : Branch) (phase : Phase) (r : OpenRequest) → P r → P (with_phase told phase r)
  phase_kept told phase r h = branches_kept r (map (phased told phase) r.branches) (edited_numbers (phased told phase) (phased_number told phase) r.branches) h

  -- with its branches marked
  marked_kept : (r : OpenRequest) → P r → P (marked r)
  marked_kept r h = branches_kept r (map marked_branch r.branches) (edited_numbers marked_branch marked_number r.branches) h

  -- with one more final answer
  final_kept : (f : Final) (r : OpenRequest) → P r → P (with_final f r)
  final_kept f r h = finals_kept r (cond (is_answering r.side) (r.finals ++ f ∷ []) r.finals) h

  -- with a branch given up
  given_up_kept : (b : Branch) (status : ℕ) (r : OpenRequest) → P r → P (given_up b status r)
  given_up_kept b status r h = final_kept (record { status = status; message = None }) (with_phase b Ended r) (phase_kept b Ended r h)

  -- once something went to the caller
  upward_kept : (now : ℕ) (o : Option Upward) (r : OpenRequest) → AllByRecursion (Tells now) (upward_list o) → P r → P (after_upward now o r)
  upward_kept now None r tells h = h
  upward_kept now (Some u) r tells h = tells.0 r h

  -- what follows every event
  pub settled_kept : (server : Server) (now : ℕ) (acks : List Packet) (relayed : Option Upward) (s : OpenRequest) → P s → Keeps now (settled server now acks relayed s)
  settled_kept server now acks relayed s h tells =
      let told : OpenRequest = after_upward now relayed s in
      let best : Option Upward = best_upward server told in
      let after : OpenRequest = after_upward now best told in
      let first : P told = upward_kept now relayed s (all_left (Tells now) (upward_list relayed) (upward_list best) tells) h in
      let last : P after = upward_kept now best told (all_right (Tells now) (upward_list relayed) (upward_list best) tells) first in
      branches_kept after (flat_map (with_cancel now) after.branches) (cancels_numbers now after.branches) last

  -- ---- a response

  -- the first final answer of a branch
  answer_kept : (r : OpenRequest) (b : Branch) (now status : ℕ) (m : Message) → P r → P (with_answer r b now status m)
  answer_kept r b now status m h =
      let after : OpenRequest = with_final (final_of status m) (with_phase (told_to r b status m) (Done (now + linger r) status) r) in
      let own : P after = final_kept (final_of status m) (with_phase (told_to r b status m) (Done (now + linger r) status) r)
      (phase_kept (told_to r b status m) (Done (now + linger r) status) r h) in
      either (is_invite r && (is_success status || is_decline status)) (marked after) after (marked_kept after own) own

  -- to the request of a branch
  target_kept : (server : Server) (now : ℕ) (r : OpenRequest) (b : Branch) (status : ℕ) (m : Message) → P r → Keeps now (target_responded server now r b status m)
  target_kept server now r b status m h =
      either_change now (is_provisional status) (settled server now [] (relayed_provisional r b status m) (with_phase b (heard r now status b.phase) r))
      (cond (is_final b.phase) (settled server now [] (further r b b.phase status m) r)
      (settled server now (acks_of server r b status m) (relayed_success r b status m) (with_answer r b now status m)))
      (settled_kept server now [] (relayed_provisional r b status m) (with_phase b (heard r now status b.phase) r) (phase_kept b (heard r now status b.phase) r h))
      (either_change now (is_final b.phase) (settled server now [] (further r b b.phase status m) r)
      (settled server now (acks_of server r b status m) (relayed_success r b status m) (with_answer r b now status m))
      (settled_kept server now [] (further r b b.phase status m) r h)
      (settled_kept server now (acks_of server r b status m) (relayed_success r b status m) (with_answer r b now status m) (answer_kept r b now status m h)))

  -- to a CANCEL of this server
  cancel_kept : (server : Server) (now : ℕ) (r : OpenRequest) (b : Branch) (status : ℕ) (m : Message) → P r → Keeps now (cancel_responded server now r b status m)
  cancel_kept server now r b status m h =
      either_change now (is_provisional status) (settled server now [] None (with_phase b (other_heard b.phase) r))
      (cond (is_final b.phase) (settled server now [] None r) (settled server now [] None (with_phase b (Done (now + 5000) status) r)))
      (settled_kept server now [] None (with_phase b (other_heard b.phase) r) (phase_kept b (other_heard b.phase) r h))
      (either_change now (is_final b.phase) (settled server now [] None r) (settled server now [] None (with_phase b (Done (now + 5000) status) r))
      (settled_kept server now [] None r h)
      (settled_kept server now [] None (with_phase b (Done (now + 5000) status) r) (phase_kept b (Done (now + 5000) status) r h)))

  -- either
  pub responded_kept : (server : Server) (now : ℕ) (r : OpenRequest) (b : Branch) (status : ℕ) (m : Message) → P r → Keeps now (responded server now r b status m)
  responded_kept server now r b status m h =
      either_change now b.is_cancel (cancel_responded server now r b status m) (target_responded server now r b status m) (cancel_kept server now r b status m h)
      (target_kept server now r b status m h)

  -- ---- what else changes a request

  -- the deadline of a branch to a target
  target_overdue_kept : (r : OpenRequest) (b : Branch) (phase : Phase) → P r → P (target_overdue r b phase)
  target_overdue_kept r b (Unheard due) h = given_up_kept b 408 r h
  target_overdue_kept r b (Heard due) h =
      either (is_invite r) (record r { branches = map (λ (x : Branch). cond (is_same_branch x b) (record x { wants_cancel = true }) x) r.branches }) (given_up b 408 r)
      (branches_kept r (map (λ (x : Branch). cond (is_same_branch x b) (record x { wants_cancel = true }) x) r.branches)
      (edited_numbers (λ (x : Branch). cond (is_same_branch x b) (record x { wants_cancel = true }) x) (wanting_number b) r.branches) h) (given_up_kept b 408 r h)
  target_overdue_kept r b (Cancelled due) h = given_up_kept b 487 r h
  target_overdue_kept r b (Done due status) h = phase_kept b Ended r h
  target_overdue_kept r b Ended h = h

  -- a deadline
  pub overdue_kept : (server : Server) (due : ℕ) (r : OpenRequest) (change : Change) → IsOverdue server due r change → P r → Keeps due change
  overdue_kept server due r _ (OfSide is) h = settled_kept server due [] None (record r { side = Closed }) (side_kept r Closed h)
  overdue_kept server due r _ (OfBranch b there is) h =
      settled_kept server due [] None (branch_overdue r b) (either b.is_cancel (with_phase b Ended r) (target_overdue r b b.phase) (phase_kept b Ended r h)
      (target_overdue_kept r b b.phase h))

  -- a send that failed
  pub failed_kept : (server : Server) (now : ℕ) (r : OpenRequest) (b : Branch) → P r → Keeps now (send_failed server now r b)
  failed_kept server now r b h = settled_kept server now [] None (given_up b 503 r) (given_up_kept b 503 r h)

  -- a CANCEL of the caller's
  pub cancelled_kept : (server : Server) (now : ℕ) (r : OpenRequest) → P r → Keeps now (cancelled server now r)
  cancelled_kept server now r h =
      settled_kept server now [] None (cond (is_invite r && is_answering r.side) (marked r) r)
      (either (is_invite r && is_answering r.side) (marked r) r (marked_kept r h) h)

  -- any change
  pub change_kept : (server : Server) (state : ProxyState) (act : Act) (now : ℕ) (r : OpenRequest) (change : Change) (again : List Packet)
      → IsChangeAt server state act now r change again → P r → Keeps now change
  change_kept server state act now r _ _ (ByResponse a bytes m status reason b said start is there) h = responded_kept server now r b status m h
  change_kept server state act now r _ _ (ByDeadline change is) h = overdue_kept server now r change is h
  change_kept server state act now r _ _ (ByFault at ticket b is number found) h = failed_kept server now r b h
  change_kept server state act now r _ _ (ByCancel a bytes m short key said method key_is found) h = cancelled_kept server now r h

  -- something goes again
  pub resent_kept : (server : Server) (now : ℕ) (r : OpenRequest) (packets : List Packet) (later : OpenRequest) → IsResent server now r packets later → P r → P later
  resent_kept server now r _ _ (OfAnswer due) h = keeps r r.side _ r.finals r.branches (same_numbers r.branches) h
  resent_kept server now r _ _ (OfRequest b there due) h =
      branches_kept r (map (resent_branch b (branch_next r b)) r.branches) (edited_numbers (resent_branch b (branch_next r b)) (resent_number b (branch_next r b))
      r.branches) h

  -- an ACK
  pub acknowledged_kept : (now : ℕ) (r : OpenRequest) → P r → P (acknowledged now r)
  acknowledged_kept now r h = either (is_invite r && was_refused r.answer) (record r { side = acknowledged_side now r.side }) r
      (side_kept r (acknowledged_side now r.side) h) h
