-- Whatever happens to an open request, its number and its key stay.
use Rattle.std.proofs.Common.{◌≡◌, ℕ, ◌+◌, Bool, true, false, cond, List, [], ◌∷◌, map, Option, Some, None, refl}
use Rattle.std.specs.Prelude.{◌&&◌, ◌||◌}
use Rattle.sip_event.specs.declared.packet.Packet.{Packet}
use Rattle.sip_message_form.specs.declared.message.Message.{Message}
use Rattle.sip_dialog_updates.specs.state.declared.branch.Branch.{Branch}
use Rattle.sip_dialog_updates.specs.state.declared.branch.Phase.{Phase}
use Rattle.sip_dialog_updates.specs.state.declared.branch.Phase.TheVariants.{Unheard, Heard, Cancelled, Done, Ended}
use Rattle.sip_dialog_updates.specs.state.declared.open_request.OpenRequest.{OpenRequest}
use Rattle.sip_dialog_updates.specs.state.declared.open_request.Side.TheVariants.{Closed}
use Rattle.sip_dialog_updates.specs.state.declared.open_request.Upward.{Upward}
use Rattle.sip_dialog_updates.specs.state.declared.server.Server.{Server}
use Rattle.sip_dialog_updates.specs.state.State.{is_invite, is_final, is_answering, is_success, is_decline, is_provisional}
use Rattle.model_steps.specs.context_model.Branches.{Change, is_same_branch, with_phase, with_final, marked, given_up, after_upward, answered, best_upward, settled}
use Rattle.model_steps.specs.context_model.Branches.{other_heard, heard, relayed_provisional, relayed_success, linger, final_of, told_to, with_answer, acks_of, further}
use Rattle.model_steps.specs.context_model.Branches.{target_responded, cancel_responded, responded, target_overdue, branch_overdue, acknowledged_side, was_refused}
use Rattle.model_steps.specs.context_model.Opening.{opening, tried, trying}
use Rattle.sip_context.specs.declared.input.Input.{Input}
use Rattle.sip_context.specs.declared.input.Input.TheVariants.{Response, BranchDeadline, SideDeadline, SendFault, Cancel, Ack, BranchAgain, AnswerAgain}
use Rattle.sip_context.specs.Inputs.{outcome_of}

-- an open request has the number and the key of another one
abbrev pub Same : OpenRequest → OpenRequest → Type 0
Same r x = (x.number ≡ r.number) × (x.key ≡ r.key)

-- of two, whichever
either_same : (t : Bool) (r x y : OpenRequest) → Same r x → Same r y → Same r (cond t x y)
either_same true r x y a b = a
either_same false r x y a b = b

either_change : (t : Bool) (r : OpenRequest) (x y : Change) → Same r x.request → Same r y.request → Same r (cond t x y).request
either_change true r x y a b = a
either_change false r x y a b = b

-- ---- what follows every event

upward_same : (now : ℕ) (o : Option Upward) (r x : OpenRequest) → Same r x → Same r (after_upward now o x)
upward_same now None r x same = same
upward_same now (Some u) r x same = same

settled_same : (server : Server) (now : ℕ) (acks : List Packet) (relayed : Option Upward) (r x : OpenRequest) → Same r x
    → Same r (settled server now acks relayed x).request
settled_same server now acks relayed r x same =
    let told : OpenRequest = after_upward now relayed x in
    upward_same now (best_upward server told) r told (upward_same now relayed r x same)

-- ---- a response

answer_same : (r : OpenRequest) (b : Branch) (now status : ℕ) (m : Message) → Same r (with_answer r b now status m)
answer_same r b now status m =
    let done : OpenRequest = with_final (final_of status m) (with_phase (told_to r b status m) (Done (now + linger r) status) r) in
    either_same (is_invite r && (is_success status || is_decline status)) r (marked done) done (refl, refl) (refl, refl)

target_same : (server : Server) (now : ℕ) (r : OpenRequest) (b : Branch) (status : ℕ) (m : Message) → Same r (target_responded server now r b status m).request
target_same server now r b status m =
    let told : OpenRequest = with_phase b (heard r now status b.phase) r in
    let again : Change = settled server now [] (further r b b.phase status m) r in
    let first : Change = settled server now (acks_of server r b status m) (relayed_success r b status m) (with_answer r b now status m) in
    either_change (is_provisional status) r (settled server now [] (relayed_provisional r b status m) told) (cond (is_final b.phase) again first)
    (settled_same server now [] (relayed_provisional r b status m) r told (refl, refl))
    (either_change (is_final b.phase) r again first (settled_same server now [] (further r b b.phase status m) r r (refl, refl))
    (settled_same server now (acks_of server r b status m) (relayed_success r b status m) r (with_answer r b now status m) (answer_same r b now status m)))

cancel_same : (server : Server) (now : ℕ) (r : OpenRequest) (b : Branch) (status : ℕ) (m : Message) → Same r (cancel_responded server now r b status m).request
cancel_same server now r b status m =
    let told : OpenRequest = with_phase b (other_heard b.phase) r in
    let done : OpenRequest = with_phase b (Done (now + 5000) status) r in
    either_change (is_provisional status) r (settled server now [] None told) (cond (is_final b.phase) (settled server now [] None r) (settled server now [] None done))
    (settled_same server now [] None r told (refl, refl))
    (either_change (is_final b.phase) r (settled server now [] None r) (settled server now [] None done) (settled_same server now [] None r r (refl, refl))
    (settled_same server now [] None r done (refl, refl)))

responded_same : (server : Server) (now : ℕ) (r : OpenRequest) (b : Branch) (status : ℕ) (m : Message) → Same r (responded server now r b status m).request
responded_same server now r b status m =
    either_change b.is_cancel r (cancel_responded server now r b status m) (target_responded server now r b status m) (cancel_same server now r b status m)
    (target_same server now r b status m)

-- ---- a deadline

target_overdue_same : (r : OpenRequest) (b : Branch) (phase : Phase) → Same r (target_overdue r b phase)
target_overdue_same r b (Unheard due) = (refl, refl)
target_overdue_same r b (Heard due) =
    let wanting : OpenRequest = record r { branches = map (λ (x : Branch). cond (is_same_branch x b) (record x { wants_cancel = true }) x) r.branches } in
    either_same (is_invite r) r wanting (given_up b 408 r) (refl, refl) (refl, refl)
target_overdue_same r b (Cancelled due) = (refl, refl)
target_overdue_same r b (Done due status) = (refl, refl)
target_overdue_same r b Ended = (refl, refl)

overdue_same : (r : OpenRequest) (b : Branch) → Same r (branch_overdue r b)
overdue_same r b = either_same b.is_cancel r (with_phase b Ended r) (target_overdue r b b.phase) (refl, refl) (target_overdue_same r b b.phase)

-- ---- inputs

pub outcome_same : (server : Server) (now : ℕ) (r : OpenRequest) (input : Input) → Same r (outcome_of server now r input).request
outcome_same server now r (Response branch status response) = responded_same server now r branch.now status response.now
outcome_same server now r (BranchDeadline branch) = settled_same server now [] None r (branch_overdue r branch.now) (overdue_same r branch.now)
outcome_same server now r SideDeadline = settled_same server now [] None r (record r { side = Closed }) (refl, refl)
outcome_same server now r (SendFault branch) = settled_same server now [] None r (given_up branch.now 503 r) (refl, refl)
outcome_same server now r Cancel =
    let called_off : OpenRequest = cond (is_invite r && is_answering r.side) (marked r) r in
    settled_same server now [] None r called_off (either_same (is_invite r && is_answering r.side) r (marked r) r (refl, refl) (refl, refl))
outcome_same server now r Ack = either_same (is_invite r && was_refused r.answer) r (record r { side = acknowledged_side now r.side }) r (refl, refl) (refl, refl)
outcome_same server now r (BranchAgain branch) = (refl, refl)
outcome_same server now r AnswerAgain = (refl, refl)

-- ---- openings

tried_same : (now : ℕ) (us : List Upward) (r x : OpenRequest) → Same r x → Same r (tried now us x)
tried_same now [] r x same = same
tried_same now (u ∷ us) r x same = tried_same now us r (answered now u x) same

pub opening_same : (server : Server) (now : ℕ) (r x : OpenRequest) → Same r x → Same r (opening server now x).request
opening_same server now r x same = settled_same server now [] None r (tried now (trying server x) x) (tried_same now (trying server x) r x same)
