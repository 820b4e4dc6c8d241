-- What the parts of a step make of the open requests: each is in time as before.
use Rattle.std.proofs.Common.{◌≡◌, ℕ, ◌+◌, ◌≤◌, max, Bool, true, false, not, ◌&&◌, cond, ◌==◌, List, [], ◌∷◌, map, filter, Contains, Some, None, refl, sym, ap, subst}
use Rattle.std.proofs.Common.{◌∙◌, arith, is_some, codes}
use Rattle.std.specs.List.{AllByRecursion, list_all}
use Rattle.std.specs.Str.{bytes_eq}
use Rattle.std.proofs.Math.Nat.{le-max_left, le-max_right, max-le}
use Rattle.sip_transaction_table.specs.declared.key.TransactionKey.{TransactionKey}
use Rattle.sip_message_form.specs.declared.message.Start.TheVariants.{Status}
use Rattle.sip_message_form.specs.declared.message.Message.{Message}
use Rattle.sip_event.specs.declared.packet.Packet.{Packet}
use Rattle.model_steps.specs.state.declared.server.Server.{Server}
use Rattle.model_steps.specs.state.declared.branch.Phase.{Phase}
use Rattle.model_steps.specs.state.declared.branch.Phase.TheVariants.{Unheard, Ended}
use Rattle.model_steps.specs.state.declared.branch.Branch.{Branch}
use Rattle.model_steps.specs.state.declared.open_request.Side.{Side}
use Rattle.model_steps.specs.state.declared.open_request.Side.TheVariants.{Answering, Closing, Acknowledged, Closed}
use Rattle.model_steps.specs.state.declared.open_request.OpenRequest.{OpenRequest}
use Rattle.model_steps.specs.state.declared.open_request.Upward.{Upward}
use Rattle.model_steps.specs.state.declared.proxy_state.ProxyState.{ProxyState}
use Rattle.model_steps.specs.state.Arrival.{Arrival}
use Rattle.model_steps.specs.state.State.{is_invite, is_final, is_answering, is_provisional, phase_deadline, side_deadline}
use Rattle.model_steps.specs.context_model.Branches.{Change, is_same_branch, all_final, acknowledged, acknowledged_side, was_refused}
use Rattle.model_steps.specs.context_model.Opening.{forking, tried, trying, opening}
use Rattle.model_steps.specs.context_model.Retransmission.{IsResent, OfAnswer, OfRequest, branch_next}
use Rattle.model_steps.specs.verdict_model.Verdict.{responding}
use Rattle.model_steps.specs.Step.{Act, IsOverdue, OfSide, OfBranch}
use Rattle.sip_model.specs.Run.{Link}
use Rattle.sip_model.specs.Access.{IsSaidAt}
use Rattle.sip_model.specs.Parts.{IsBegun, AreBegun, IsOpening, Answered, Sent, IsChangeAt, ByResponse, ByDeadline, ByFault, ByCancel, IsPart, Stays, Passes, Copies}
use Rattle.sip_model.specs.Parts.{TurnsAway, Opens, Changes, Resends, Acknowledges, AreParts, One, Two}
use Rattle.sip_model.specs.Endings.{heard_last}
use Rattle.sip_model.proofs.EndingLists.{all_map, all_both, all_replaced}
use Rattle.sip_model.proofs.EndingTimes.{waiting_time, phase_time, side_time, IsBy, IsFrom, IsOnTime, IsInTime, still_waits}
use Rattle.sip_model.proofs.EndingChanges.{IsOpenAt, IsChanging, HasChanged, upward_changing, settled_changed, response_changed, overdue_changed, side_changed}
use Rattle.sip_model.proofs.EndingChanges.{failed_changed, cancelled_changed}
use Rattle.sip_model.proofs.Lists.{all_weaker, all_append, all_contains}

-- ---- the moment from which the time of a request counts

-- that of an INVITE, or of another request
abbrev pub origin_by : Server → List Link → Bool → ℕ → ℕ → ℕ
origin_by server history invite arrived number = cond invite (max arrived (heard_last server number history)) arrived

-- that of an open request
abbrev pub origin_of : Server → List Link → OpenRequest → ℕ
origin_of server history r = origin_by server history (is_invite r) r.arrived_at r.number

-- it isn't before the arrival
from_arrival : (t : Bool) (arrived heard : ℕ) → arrived ≤ cond t (max arrived heard) arrived
from_arrival true arrived heard = le-max_left arrived heard
from_arrival false arrived heard = omega arith

-- nor earlier where the last provisional response isn't
pub origin_later : (t : Bool) (arrived earlier later : ℕ) → earlier ≤ later → cond t (max arrived earlier) arrived ≤ cond t (max arrived later) arrived
origin_later true arrived earlier later le = let most : later ≤ max arrived later = le-max_right arrived later in
    max-le (le-max_left arrived later) (omega (arith, le, most))
origin_later false arrived earlier later le = omega arith

-- an open request is in time, by a history
abbrev pub IsEnding : Server → List Link → OpenRequest → Type 0
IsEnding server history r = IsInTime (is_invite r) (origin_of server history r) r

-- a request that changed is, counted from the same moment
changed_ending : (server : Server) (history : List Link) (r x : OpenRequest) → HasChanged (origin_of server history r) r x → IsEnding server history x
changed_ending server history r x h =
    let invite : is_invite x ≡ is_invite r = ap (λ (k : TransactionKey). bytes_eq k.method (codes "INVITE")) h.key_is in
    subst (λ (i : Bool). IsInTime i (origin_by server history i x.arrived_at x.number) x) (sym invite)
    (subst (λ (n : ℕ). IsInTime (is_invite r) (origin_by server history (is_invite r) x.arrived_at n) x) (sym h.number_is)
    (subst (λ (n : ℕ). IsInTime (is_invite r) (origin_by server history (is_invite r) n r.number) x) (sym h.arrival_is) h.in_time))

-- ---- before a change

-- where not all branches to targets have a final answer, one waits for it
one_waits : (invite : Bool) (origin now : ℕ) (bs : List Branch) → AllByRecursion (IsOpenAt invite origin now) bs
    → list_all (λ (b : Branch). is_final b.phase) (filter (λ (b : Branch). not b.is_cancel) bs) ≡ false
    → now ≤ origin + waiting_time invite
one_waits invite origin now [] all e = absurd (cc)
one_waits invite origin now (b ∷ bs) all e = by_branch b.is_cancel refl (is_final b.phase) refl (λ rest. one_waits invite origin now bs all.1 rest) e where
  by_branch : (c : Bool) → b.is_cancel ≡ c → (f : Bool) → is_final b.phase ≡ f → (list_all (λ (x : Branch). is_final x.phase)
      (filter (λ (x : Branch). not x.is_cancel) bs) ≡ false → now ≤ origin + waiting_time invite)
      → list_all (λ (x : Branch). is_final x.phase) (cond (not c) (b ∷ filter (λ (x : Branch). not x.is_cancel) bs) (filter (λ (x : Branch). not x.is_cancel) bs)) ≡ false
      → now ≤ origin + waiting_time invite
  by_branch true is f final rest waits = rest waits
  by_branch false is false final rest waits =
      still_waits invite origin now b.phase final (subst (λ (c : Bool). IsBy (origin + phase_time invite c b.phase) (phase_deadline b.phase)) is all.0.0.ends) all.0.1
  by_branch false is true final rest waits = rest (sym (ap (λ (t : Bool). t && list_all (λ (x : Branch). is_final x.phase) (filter (λ (x : Branch). not x.is_cancel) bs))
      final) ∙ waits)

-- an open request that is in time may change at a moment that isn't behind one of its deadlines
pub may_change : (origin now : ℕ) (r : OpenRequest) → IsInTime (is_invite r) origin r → AllByRecursion (λ (b : Branch). IsFrom now (phase_deadline b.phase)) r.branches
    → (is_answering r.side ≡ true → all_final r ≡ false) → IsChanging origin now r r
may_change origin now r h from waits =
    let branches : AllByRecursion (IsOpenAt (is_invite r) origin now) r.branches = all_both (IsOnTime (is_invite r) origin)
    (λ (b : Branch). IsFrom now (phase_deadline b.phase)) r.branches h.branches from in
    record {
      key_is = refl;
      number_is = refl;
      arrival_is = refl;
      branches = branches;
      side = h.side;
      owes = λ answering. one_waits (is_invite r) origin now r.branches branches (waits answering);
    }

-- ---- a request is opened

-- branches as they are first sent are in time
begun_open : (invite : Bool) (origin now number : ℕ) → now ≤ origin → (bs : List Branch) → AreBegun now number bs → AllByRecursion (IsOpenAt invite origin now) bs
begun_open invite origin now number le [] begun = tt
begun_open invite origin now number le (b ∷ bs) begun =
    let first : IsBegun now number b = begun.0 in
    let ends : IsBy (origin + phase_time invite false (cond (is_some b.address) (Unheard (now + 32000)) Ended))
    (phase_deadline (cond (is_some b.address) (Unheard (now + 32000)) Ended)) = by_address (is_some b.address) in
    let from : IsFrom now (phase_deadline (cond (is_some b.address) (Unheard (now + 32000)) Ended)) = from_address (is_some b.address) in (
      (
        record {
          ends = subst (λ (c : Bool). IsBy (origin + phase_time invite c b.phase) (phase_deadline b.phase)) (sym first.is_target)
              (subst (λ (p : Phase). IsBy (origin + phase_time invite false p) (phase_deadline p)) (sym first.is_due) ends);
          cancels_nothing = λ other. (first.is_target, first.is_wanted);
        },
        subst (λ (p : Phase). IsFrom now (phase_deadline p)) (sym first.is_due) from,
      ),
      begun_open invite origin now (number + 1) le bs begun.1,
    ) where
      by_address : (t : Bool) → IsBy (origin + phase_time invite false (cond t (Unheard (now + 32000)) Ended)) (phase_deadline (cond t (Unheard (now + 32000)) Ended))
      by_address true = omega arith
      by_address false = tt

      from_address : (t : Bool) → IsFrom now (phase_deadline (cond t (Unheard (now + 32000)) Ended))
      from_address true = omega arith
      from_address false = tt

-- the time to the first deadline is in that of a branch
first_waits : (invite : Bool) (origin now : ℕ) → now ≤ origin → now ≤ origin + waiting_time invite
first_waits invite origin now le = omega arith

-- the 100 of a request changes nothing of that
tried_changing : (origin now : ℕ) (r : OpenRequest) (us : List Upward) (x : OpenRequest) → IsChanging origin now r x → IsChanging origin now r (tried now us x)
tried_changing origin now r [] x h = h
tried_changing origin now r (u ∷ us) x h = tried_changing origin now r us _ (upward_changing origin now r (Some u) x h)

-- a side that closes at once is in time
closing_at : (invite : Bool) (origin now : ℕ) → now ≤ origin → now + 32000 ≤ origin + cond invite 249000 64000
closing_at true origin now le = omega arith
closing_at false origin now le = omega arith

-- a request is in time as it is opened
opening_ending : (server : Server) (history : List Link) (a : Arrival) (m : Message) (r : OpenRequest) (firsts : List Packet) → IsOpening server a m r firsts
    → IsEnding server history r
opening_ending server history a m r _ (Answered status extras final) =
    record { branches = tt; side = closing_at _ _ a.now (from_arrival _ a.now (heard_last server a.number history)) }
opening_ending server history a m r _ (Sent first others begun) =
    let fork : OpenRequest = forking a m (first ∷ others) in
    let origin : ℕ = origin_of server history fork in
    let arrived : a.now ≤ origin = from_arrival (is_invite fork) a.now (heard_last server a.number history) in
    let forked : IsChanging origin a.now fork fork = record {
      key_is = refl;
      number_is = refl;
      arrival_is = refl;
      branches = begun_open (is_invite fork) origin a.now 1 arrived (first ∷ others) begun;
      side = tt;
      owes = λ answering. first_waits (is_invite fork) origin a.now arrived;
    } in
    changed_ending server history fork (opening server a.now fork).request
    (settled_changed server origin a.now [] None fork (tried a.now (trying server fork) fork) (tried_changing origin a.now fork (trying server fork) fork forked))

-- ---- an open request changes

-- a response of 101 to 199 that a step is taken for came no later than the moment from which the time of its INVITE counts
abbrev pub IsRecent : Server → List Link → ProxyState → Act → ℕ → Type 0
IsRecent server history state act now =
    (a : Arrival) (bytes : List ℕ) (m : Message) (status : ℕ) (reason : List ℕ) (r : OpenRequest) (b : Branch) → IsSaidAt state act a bytes m false
    → m.start ≡ Status status reason
    → responding server state.requests m.fields ≡ Some (r, b) → b.is_cancel ≡ false → is_provisional status ≡ true → is_invite r ≡ true → (status == 100) ≡ false
    → now ≤ origin_of server history r

-- a deadline that passes leaves the request in time
overdue_ending : (server : Server) (origin now : ℕ) (r : OpenRequest) (change : Change) → IsChanging origin now r r → IsOverdue server now r change
    → HasChanged origin r change.request
overdue_ending server origin now r _ h (OfSide is) = side_changed server origin now r h
overdue_ending server origin now r _ h (OfBranch b there is) = overdue_changed server origin now r b h

-- so does each change
change_changed : (server : Server) (history : List Link) (state : ProxyState) (act : Act) (now : ℕ) (r : OpenRequest) (change : Change) (again : List Packet)
    → IsRecent server history state act now
    → IsChanging (origin_of server history r) now r r → IsChangeAt server state act now r change again → HasChanged (origin_of server history r) r change.request
change_changed server history state act now r _ _ recent h (ByResponse a bytes m status reason b said start is_for there) =
    response_changed server (origin_of server history r) now r b status m h
    (all_contains (IsOpenAt (is_invite r) (origin_of server history r) now) r.branches b h.branches there)
    (λ target provisional invite other. recent a bytes m status reason r b said start is_for target provisional invite other)
change_changed server history state act now r _ _ recent h (ByDeadline change overdue) = overdue_ending server (origin_of server history r) now r change h overdue
change_changed server history state act now r _ _ recent h (ByFault at ticket b is_act is_number found) = failed_changed server (origin_of server history r) now r b h
change_changed server history state act now r _ _ recent h (ByCancel a bytes m short key said is_cancel is_key found) =
    cancelled_changed server (origin_of server history r) now r h

-- ---- what goes again, and an ACK

-- what goes again leaves the phases
resent_on_time : (invite : Bool) (origin : ℕ) (b : Branch) (bs : List Branch) (again : _) → AllByRecursion (IsOnTime invite origin) bs
    → AllByRecursion (IsOnTime invite origin) (map (λ (x : Branch). cond (is_same_branch x b) (record x { again = again }) x) bs)
resent_on_time invite origin b bs again all = all_map (IsOnTime invite origin) (IsOnTime invite origin)
    (λ (x : Branch). cond (is_same_branch x b) (record x { again = again }) x) (λ x on. by_test x on (is_same_branch x b)) bs all where
      by_test : (x : Branch) → IsOnTime invite origin x → (t : Bool) → IsOnTime invite origin (cond t (record x { again = again }) x)
      by_test x on true = record { ends = on.ends; cancels_nothing = on.cancels_nothing }
      by_test x on false = on

-- so a request of which something goes again is in time as before
resent_ending : (server : Server) (history : List Link) (now : ℕ) (r : OpenRequest) (packets : List Packet) (later : OpenRequest) → IsResent server now r packets later
    → IsEnding server history r → IsEnding server history later
resent_ending server history now r _ _ (OfAnswer is) h = record { branches = h.branches; side = h.side }
resent_ending server history now r _ _ (OfRequest b there is) h = record {
  branches =
      resent_on_time (is_invite r) (origin_of server history r) b r.branches (branch_next r b) h.branches;
  side = h.side;
}

-- an ACK leaves the answering side in time
acknowledged_by : (origin now : ℕ) (side : Side) → IsBy (origin + side_time true side) (side_deadline side) → IsFrom now (side_deadline side)
    → IsBy (origin + side_time true (acknowledged_side now side)) (side_deadline (acknowledged_side now side))
acknowledged_by origin now Answering by from = tt
acknowledged_by origin now (Closing due) by from = omega arith
acknowledged_by origin now (Acknowledged due) by from = by
acknowledged_by origin now Closed by from = tt

-- and so the request
acknowledged_ending : (server : Server) (history : List Link) (now : ℕ) (r : OpenRequest) → IsEnding server history r → IsFrom now (side_deadline r.side)
    → IsEnding server history (acknowledged now r)
acknowledged_ending server history now r h from = by_test (is_invite r) refl (was_refused r.answer) h.side where
  by_test : (i : Bool) → is_invite r ≡ i → (t : Bool) → IsBy (origin_of server history r + side_time (is_invite r) r.side) (side_deadline r.side)
      → IsEnding server history (cond (i && t) (record r { side = acknowledged_side now r.side }) r)
  by_test true is true by = record {
    branches = h.branches;
    side = subst (λ (i : Bool). IsBy (origin_of server history r + side_time i (acknowledged_side now r.side)) (side_deadline (acknowledged_side now r.side))) (sym is)
        (acknowledged_by (origin_of server history r) now r.side (subst (λ (i : Bool). IsBy (origin_of server history r + side_time i r.side) (side_deadline r.side)) is
        by) from);
  }
  by_test true is false by = h
  by_test false is t by = h

-- ---- the parts

-- An open request before a step at a moment: it may change there, and its answering side's deadline isn't before it either.
pub record IsReady (server : Server) (history : List Link) (now : ℕ) (r : OpenRequest) : Type 0 where
  pub changing : IsChanging (origin_of server history r) now r r
  pub side_from : IsFrom now (side_deadline r.side)

-- it is in time
ready_ending : (server : Server) (history : List Link) (now : ℕ) (r : OpenRequest) → IsReady server history now r → IsEnding server history r
ready_ending server history now r h = record {
  branches = all_weaker (IsOpenAt (is_invite r) (origin_of server history r) now) (IsOnTime (is_invite r) (origin_of server history r)) (λ b on. on.0) r.branches
      h.changing.branches;
  side = h.changing.side;
}

module _ (server : Server) (history : List Link) (state : ProxyState) (act : Act) (now : ℕ) (recent : IsRecent server history state act now) (requests : List OpenRequest)
    (ready : AllByRecursion (IsReady server history now) requests) where
  -- a request that is there may change
  ready_there : (r : OpenRequest) → Contains requests r → IsReady server history now r
  ready_there r there = all_contains (IsReady server history now) requests r ready there

  -- all are in time
  all_ending : AllByRecursion (IsEnding server history) requests
  all_ending = all_weaker (IsReady server history now) (IsEnding server history) (ready_ending server history now) requests ready

  -- so a part leaves them
  part_ending : (after : List OpenRequest) (firsts again : List Packet) → IsPart server state act now requests after firsts again
      → AllByRecursion (IsEnding server history) after
  part_ending after firsts again (Stays e f g) = subst (AllByRecursion (IsEnding server history)) (sym e) all_ending
  part_ending after firsts again (Passes a m address within ack e f g) = subst (AllByRecursion (IsEnding server history)) (sym e) all_ending
  part_ending after firsts again (Copies a bytes m short key r said method is_key found e f g) = subst (AllByRecursion (IsEnding server history)) (sym e) all_ending
  part_ending after firsts again (TurnsAway a bytes m short r said key no_ack opens full e g) = subst (AllByRecursion (IsEnding server history)) (sym e) all_ending
  part_ending after firsts again (Opens a bytes m short r said key no_ack at opens room new e g) =
      subst (AllByRecursion (IsEnding server history)) (sym e) (all_append (IsEnding server history) requests (r ∷ []) all_ending
      (opening_ending server history a m r firsts opens, tt))
  part_ending after firsts again (Changes r change there is e f) =
      let changed : HasChanged (origin_of server history r) r change.request = change_changed server history state act now r change again recent
      (ready_there r there).changing is in
      subst (AllByRecursion (IsEnding server history)) (sym e) (all_replaced (IsEnding server history) change.request
      (changed_ending server history r change.request changed) requests all_ending)
  part_ending after firsts again (Resends r later there goes e f) =
      subst (AllByRecursion (IsEnding server history)) (sym e)
      (all_replaced (IsEnding server history) later (resent_ending server history now r again later goes (ready_ending server history now r (ready_there r there)))
      requests all_ending)
  part_ending after firsts again (Acknowledges r there e f g) =
      let before : IsReady server history now r = ready_there r there in
      subst (AllByRecursion (IsEnding server history)) (sym e)
      (all_replaced (IsEnding server history) (acknowledged now r) (acknowledged_ending server history now r (ready_ending server history now r before) before.side_from)
      requests all_ending)

  -- and one part or two do
  pub parts_ending : (after : List OpenRequest) (firsts again : List Packet) → AreParts server state act now requests after firsts again
      → AllByRecursion (IsEnding server history) after
  parts_ending after firsts again (One part) = part_ending after firsts again part
  parts_ending after firsts again (Two middle earlier r change part there here is e f g) =
      let changed : HasChanged (origin_of server history r) r change.request = change_changed server history state act now r change [] recent
      (ready_there r there).changing is in
      subst (AllByRecursion (IsEnding server history)) (sym e)
      (all_replaced (IsEnding server history) change.request (changed_ending server history r change.request changed) middle (part_ending middle earlier [] part))
