-- What a change of an open request sends to the caller is of its status, and the rest of it is no answer; and what the request keeps stays so.
use Rattle.std.proofs.Common.{◌≡◌, ℕ, ◌+◌, ◌≤◌, Bool, true, false, not, ◌&&◌, ◌||◌, cond, ◌==◌, List, [], ◌∷◌, ◌++◌, map, filter, Option, Some, None, refl, subst, arith}
use Rattle.std.proofs.Common.{flat_map}
use Rattle.std.specs.Option.{option_map_or}
use Rattle.std.specs.List.{AllByRecursion}
use Rattle.sip_uri.specs.declared.addr.Addr.{Addr}
use Rattle.sip_message_fields.specs.declared.field_name.FieldName.TheVariants as Name
use Rattle.sip_message_fields.specs.Values.{first_value}
use Rattle.sip_message_form.specs.declared.message.Message.{Message}
use Rattle.sip_message_form.specs.Text.{text_of}
use Rattle.sip_best.specs.declared.final_answer.Final.{Final}
use Rattle.sip_edit.specs.OwnRequests.{ack_with, cancel_of}
use Rattle.sip_edit.specs.OwnVia.{without_top_via}
use Rattle.sip_event.specs.declared.packet.Packet.{Packet}
use Rattle.model_steps.specs.state.declared.server.Server.{Server}
use Rattle.model_steps.specs.state.declared.branch.Phase.{Phase}
use Rattle.model_steps.specs.state.declared.branch.Phase.TheVariants.{Unheard, Heard, Cancelled, Done, Ended}
use Rattle.model_steps.specs.state.declared.branch.Branch.{Branch}
use Rattle.model_steps.specs.state.declared.open_request.Side.TheVariants.{Closed}
use Rattle.model_steps.specs.state.declared.open_request.OpenRequest.{OpenRequest}
use Rattle.model_steps.specs.state.declared.open_request.Upward.{Upward}
use Rattle.model_steps.specs.state.declared.proxy_state.ProxyState.{ProxyState}
use Rattle.model_steps.specs.state.State.{is_invite, is_answering, is_final, is_success, is_failure, is_decline, is_provisional}
use Rattle.model_steps.specs.context_model.Sending.{request_of, branch_packets}
use Rattle.model_steps.specs.context_model.Branches.{Change, is_same_branch, phased, with_phase, with_final, marked_branch, marked, given_up, best_upward, is_cancellable}
use Rattle.model_steps.specs.context_model.Branches.{cancel_branch, after_upward, upward_list, settled, heard, other_heard, relayed_from, relayed_provisional, is_accepted}
use Rattle.model_steps.specs.context_model.Branches.{relayed_success, linger, final_of, told_to, with_answer, acks_of, further, target_responded, cancel_responded}
use Rattle.model_steps.specs.context_model.Branches.{responded, target_overdue, branch_overdue}
use Rattle.model_steps.specs.Step.{Act, IsOverdue, OfSide, OfBranch}
use Rattle.sip_model.specs.Parts.{IsChangeAt, ByResponse, ByDeadline, ByFault, ByCancel}
use Rattle.sip_model.specs.FinalAnswers.{begins_final}
use Rattle.sip_model.proofs.FinalsText.{HasStatus, ack_text, cancel_text}
use Rattle.sip_model.proofs.FinalsReading.{said_low}
use Rattle.sip_model.proofs.FinalsKept.{IsKept, IsHonest, made_kept, best_honest}
use Rattle.sip_model.proofs.SendingLists.{all_joined}

-- a packet doesn't begin as a final answer
abbrev pub IsNoAnswer : Packet → Type 0
IsNoAnswer p = begins_final p.bytes ≡ false

-- an open request is another one, but for its side, its branches and its times, and keeps final answers of their statuses
pub record IsLike (r x : OpenRequest) : Type 0 where
  pub number_is : x.number ≡ r.number
  pub key_is : x.key ≡ r.key
  pub keeps : AllByRecursion IsKept x.finals

-- a change of a request sends answers of their statuses, and all else that it sends is no final answer
pub record IsSound (r : OpenRequest) (change : Change) : Type 0 where
  pub is_like : IsLike r change.request
  pub honest : AllByRecursion IsHonest change.upward
  pub acks : AllByRecursion IsNoAnswer change.acks
  pub cancels : AllByRecursion IsNoAnswer change.cancels

-- ---- settling

-- what stays kept once an answer went up
told_like : (now : ℕ) (o : Option Upward) (r x : OpenRequest) → IsLike r x → IsLike r (after_upward now o x)
told_like now None r x h = h
told_like now (Some u) r x h = record { number_is = h.number_is; key_is = h.key_is; keeps = by_test (is_provisional u.status) } where
  by_test : (t : Bool) → AllByRecursion IsKept (cond t x.finals [])
  by_test true = h.keeps
  by_test false = tt

-- the CANCEL of a branch
cancel_packets : (server : Server) (r : OpenRequest) (b : Branch) (address : Option Addr)
    → AllByRecursion IsNoAnswer
    (option_map_or (λ to. record { to = to; bytes = text_of (cancel_of (request_of server r b)); ticket = record { datagram = r.number; branch = 0 }; again = false }
    ∷ [])
    address [])
cancel_packets server r b None = tt
cancel_packets server r b (Some to) = (cancel_text (request_of server r b), tt)

-- those of all that are sent one
all_cancels : (server : Server) (now : ℕ) (r : OpenRequest) (bs : List Branch) → AllByRecursion IsNoAnswer
    (flat_map (branch_packets server false r) (map (cancel_branch now) bs))
all_cancels server now r [] = tt
all_cancels server now r (b ∷ bs) =
    all_joined IsNoAnswer (branch_packets server false r (cancel_branch now b)) (flat_map (branch_packets server false r) (map (cancel_branch now) bs))
    (cancel_packets server r (cancel_branch now b) b.address)
    (all_cancels server now r bs)

-- whatever settling follows
pub settled_sound : (server : Server) (now : ℕ) (acks : List Packet) (relayed : Option Upward) (r x : OpenRequest) → AllByRecursion IsNoAnswer acks
    → AllByRecursion IsHonest (upward_list relayed) → IsLike r x
    → IsSound r (settled server now acks relayed x)
settled_sound server now acks relayed r x none honest h =
    let told : OpenRequest = after_upward now relayed x in
    let best : Option Upward = best_upward server told in
    let like : IsLike r told = told_like now relayed r x h in
    let after : IsLike r (after_upward now best told) = told_like now best r told like in
    record {
      is_like = record { number_is = after.number_is; key_is = after.key_is; keeps = after.keeps };
      honest = all_joined IsHonest (upward_list relayed) (upward_list best) honest (best_honest server told like.keeps);
      acks = none;
      cancels = all_cancels server now (after_upward now best told) (filter is_cancellable (after_upward now best told).branches);
    }

-- ---- what changes before it settles

-- one more final answer is kept
more_kept : (t : Bool) (fs : List Final) (f : Final) → AllByRecursion IsKept fs → IsKept f → AllByRecursion IsKept (cond t (fs ++ f ∷ []) fs)
more_kept true fs f all h = all_joined IsKept fs (f ∷ []) all (h, tt)
more_kept false fs f all h = all

-- so it is where a branch is given up
given_up_like : (b : Branch) (status : ℕ) (r : OpenRequest) → 100 ≤ status → AllByRecursion IsKept r.finals → IsLike r (given_up b status r)
given_up_like b status r low all =
    record { number_is = refl; key_is = refl; keeps = more_kept (is_answering r.side) r.finals (record { status = status; message = None }) all (made_kept status low) }

-- a request whose branches alone change
same_like : (r : OpenRequest) (bs : List Branch) → AllByRecursion IsKept r.finals → IsLike r (record r { branches = bs })
same_like r bs all = record { number_is = refl; key_is = refl; keeps = all }

-- ---- a response

-- what goes up of a response of a status
relayed_honest : (r : OpenRequest) (b : Branch) (status : ℕ) (m : Message) → 100 ≤ status → HasStatus status m → IsHonest (relayed_from b status m)
relayed_honest r b status m low h = record { low = low; is_of = record { reason = h.reason; start_is = h.start_is } }

-- if it does
chosen_honest : (t : Bool) (u : Upward) → IsHonest u → AllByRecursion IsHonest (upward_list (cond t (Some u) None))
chosen_honest true u h = (h, tt)
chosen_honest false u h = tt

-- a further 2xx
further_honest : (r : OpenRequest) (b : Branch) (phase : Phase) (status : ℕ) (m : Message) → IsHonest (relayed_from b status m)
    → AllByRecursion IsHonest (upward_list (further r b phase status m))
further_honest r b (Done due first) status m h = by_test (is_invite r && is_success first) where
  by_test : (t : Bool) → AllByRecursion IsHonest (upward_list (cond t (relayed_success r b status m) None))
  by_test true = chosen_honest (is_success status && (is_answering r.side || is_accepted r)) (relayed_from b status m) h
  by_test false = tt
further_honest r b (Unheard due) status m h = tt
further_honest r b (Heard due) status m h = tt
further_honest r b (Cancelled due) status m h = tt
further_honest r b Ended status m h = tt

-- the ACK of a final answer
acks_none : (server : Server) (r : OpenRequest) (b : Branch) (status : ℕ) (m : Message) → AllByRecursion IsNoAnswer (acks_of server r b status m)
acks_none server r b status m = by_test (is_invite r && is_failure status) b.address where
  by_test : (t : Bool) (address : Option Addr)
      → AllByRecursion IsNoAnswer
      (cond t (option_map_or
      (λ to. record {
        to = to;
        bytes = text_of
            (ack_with (first_value Name.To m.fields) (request_of server r b));
        ticket = record { datagram = r.number; branch = 0 };
        again = false;
      } ∷ []) address []) [])
  by_test true None = tt
  by_test true (Some to) = (ack_text (first_value Name.To m.fields) (request_of server r b), tt)
  by_test false address = tt

-- the final answer of a branch is kept
final_like : (now : ℕ) (r : OpenRequest) (b : Branch) (status : ℕ) (m : Message) → 100 ≤ status → HasStatus status m → AllByRecursion IsKept r.finals
    → IsLike r (with_answer r b now status m)
final_like now r b status m low h all = by_test (is_invite r && (is_success status || is_decline status)) where
  kept : IsKept (final_of status m)
  kept = record { low = low; is_of = λ x e. let same : without_top_via m ≡ x = cc in subst (HasStatus status) same (record { reason = h.reason; start_is = h.start_is }) }

  before : OpenRequest
  before = with_final (final_of status m) (with_phase (told_to r b status m) (Done (now + linger r) status) r)

  like : IsLike r before
  like = record { number_is = refl; key_is = refl; keeps = more_kept (is_answering r.side) r.finals (final_of status m) all kept }

  by_test : (t : Bool) → IsLike r (cond t (marked before) before)
  by_test true = record { number_is = refl; key_is = refl; keeps = like.keeps }
  by_test false = like

-- a response to the request of a branch
target_sound : (server : Server) (now : ℕ) (r : OpenRequest) (b : Branch) (status : ℕ) (m : Message) → 100 ≤ status → HasStatus status m → AllByRecursion IsKept r.finals
    → IsSound r (target_responded server now r b status m)
target_sound server now r b status m low h all = by_test (is_provisional status) (is_final b.phase) where
  honest : IsHonest (relayed_from b status m)
  honest = relayed_honest r b status m low h

  by_test : (t u : Bool)
      → IsSound r (cond t (settled server now [] (relayed_provisional r b status m) (with_phase b (heard r now status b.phase) r))
      (cond u (settled server now [] (further r b b.phase status m) r)
      (settled server now (acks_of server r b status m) (relayed_success r b status m) (with_answer r b now status m))))
  by_test true u =
      settled_sound server now [] (relayed_provisional r b status m) r (with_phase b (heard r now status b.phase) r) tt
      (chosen_honest (not (status == 100) && not (is_final b.phase) && is_answering r.side) (relayed_from b status m) honest)
      (same_like r (map (phased b (heard r now status b.phase)) r.branches) all)
  by_test false true = settled_sound server now [] (further r b b.phase status m) r r tt (further_honest r b b.phase status m honest) (same_like r r.branches all)
  by_test false false =
      settled_sound server now (acks_of server r b status m) (relayed_success r b status m) r (with_answer r b now status m) (acks_none server r b status m)
      (chosen_honest (is_success status && (is_answering r.side || is_accepted r)) (relayed_from b status m) honest) (final_like now r b status m low h all)

-- one to a CANCEL
cancel_sound : (server : Server) (now : ℕ) (r : OpenRequest) (b : Branch) (status : ℕ) (m : Message) → AllByRecursion IsKept r.finals
    → IsSound r (cancel_responded server now r b status m)
cancel_sound server now r b status m all = by_test (is_provisional status) (is_final b.phase) where
  by_test : (t u : Bool)
      → IsSound r (cond t (settled server now [] None (with_phase b (other_heard b.phase) r))
      (cond u (settled server now [] None r) (settled server now [] None (with_phase b (Done (now + 5000) status) r))))
  by_test true u = settled_sound server now [] None r (with_phase b (other_heard b.phase) r) tt tt (same_like r (map (phased b (other_heard b.phase)) r.branches) all)
  by_test false true = settled_sound server now [] None r r tt tt (same_like r r.branches all)
  by_test false false = settled_sound server now [] None r (with_phase b (Done (now + 5000) status) r) tt tt
      (same_like r (map (phased b (Done (now + 5000) status)) r.branches) all)

-- a response
response_sound : (server : Server) (now : ℕ) (r : OpenRequest) (b : Branch) (status : ℕ) (m : Message) → 100 ≤ status → HasStatus status m
    → AllByRecursion IsKept r.finals
    → IsSound r (responded server now r b status m)
response_sound server now r b status m low h all = by_test b.is_cancel where
  by_test : (t : Bool) → IsSound r (cond t (cancel_responded server now r b status m) (target_responded server now r b status m))
  by_test true = cancel_sound server now r b status m all
  by_test false = target_sound server now r b status m low h all

-- ---- a deadline

-- that of a branch to a target
target_like : (r : OpenRequest) (b : Branch) (phase : Phase) → AllByRecursion IsKept r.finals → IsLike r (target_overdue r b phase)
target_like r b (Unheard due) all = given_up_like b 408 r (omega arith) all
target_like r b (Heard due) all = by_test (is_invite r) where
  by_test : (t : Bool) → IsLike r
      (cond t (record r { branches = map (λ (x : Branch). cond (is_same_branch x b) (record x { wants_cancel = true }) x) r.branches }) (given_up b 408 r))
  by_test true = same_like r (map (λ (x : Branch). cond (is_same_branch x b) (record x { wants_cancel = true }) x) r.branches) all
  by_test false = given_up_like b 408 r (omega arith) all
target_like r b (Cancelled due) all = given_up_like b 487 r (omega arith) all
target_like r b (Done due status) all = same_like r (map (phased b Ended) r.branches) all
target_like r b Ended all = same_like r r.branches all

-- that of any branch
branch_like : (r : OpenRequest) (b : Branch) → AllByRecursion IsKept r.finals → IsLike r (branch_overdue r b)
branch_like r b all = by_test b.is_cancel where
  by_test : (t : Bool) → IsLike r (cond t (with_phase b Ended r) (target_overdue r b b.phase))
  by_test true = same_like r (map (phased b Ended) r.branches) all
  by_test false = target_like r b b.phase all

-- a deadline
deadline_sound : (server : Server) (now : ℕ) (r : OpenRequest) (change : Change) → IsOverdue server now r change → AllByRecursion IsKept r.finals → IsSound r change
deadline_sound server now r _ (OfSide due) all = settled_sound server now [] None r (record r { side = Closed }) tt tt
    (record { number_is = refl; key_is = refl; keeps = all })
deadline_sound server now r _ (OfBranch b there due) all = settled_sound server now [] None r (branch_overdue r b) tt tt (branch_like r b all)

-- ---- any change

-- a CANCEL of the caller's
caller_like : (r : OpenRequest) → AllByRecursion IsKept r.finals → IsLike r (cond (is_invite r && is_answering r.side) (marked r) r)
caller_like r all = by_test (is_invite r && is_answering r.side) where
  by_test : (t : Bool) → IsLike r (cond t (marked r) r)
  by_test true = same_like r (map marked_branch r.branches) all
  by_test false = same_like r r.branches all

-- each change is sound
pub change_sound : (server : Server) (state : ProxyState) (act : Act) (now : ℕ) (r : OpenRequest) (change : Change) (again : List Packet)
    → IsChangeAt server state act now r change again → AllByRecursion IsKept r.finals → IsSound r change
change_sound server state act now r _ _ (ByResponse a bytes m status reason b said start for there) all =
    response_sound server now r b status m (said_low state act a bytes m status reason said start) (record { reason = reason; start_is = start }) all
change_sound server state act now r _ _ (ByDeadline change passes) all = deadline_sound server now r change passes all
change_sound server state act now r _ _ (ByFault at ticket b is number at_branch) all = settled_sound server now [] None r (given_up b 503 r) tt tt
    (given_up_like b 503 r (omega arith) all)
change_sound server state act now r _ _ (ByCancel a bytes m short key said is key_is at_request) all =
    settled_sound server now [] None r (cond (is_invite r && is_answering r.side) (marked r) r) tt tt (caller_like r all)
