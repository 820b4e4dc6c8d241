-- What holds of every run of a proxy: its open requests are told apart by their keys and numbers, no deadline is passed over, of
-- each request at most one final answer
-- goes up or several 2xx to an INVITE, and each open request can end.
use Rattle.std.specs.Prelude.{◌≡◌, ◌≤◌, ◌<◌, ◌+◌, ◌⊎◌, ℕ, ◌==◌, Bool, true, false, not, if◌then◌else◌, List, [], ◌∷◌, ◌++◌, length, map}
use Rattle.std.specs.Prelude.{filter, find, sum_by, count_by, Contains, Option, Some, None}
use mathlib.Core.Logic.{inl, inr}
use Rattle.std.specs.List.{AllByRecursion}
use Rattle.sip_message_form.specs.declared.message.Message.{Message}
use Rattle.sip_transaction_table.specs.declared.key.TransactionKey.{TransactionKey}
use Rattle.sip_targets.specs.declared.targets.Targets.{Targets}
use Rattle.sip_targets.specs.Targets.{target_list}
use Rattle.sip_event.specs.declared.packet.Ticket.{Ticket}
use Rattle.sip_event.specs.declared.event.StepOut.{StepOut}
use Rattle.sip_event.specs.declared.event.Event.TheVariants.{Datagram, Time, Fault}
use Rattle.model_steps.specs.state.declared.server.Server.{Server}
use Rattle.model_steps.specs.state.declared.branch.Phase.{Phase}
use Rattle.model_steps.specs.state.declared.open_request.Side.{Side}
use Rattle.model_steps.specs.state.declared.branch.Branch.{Branch}
use Rattle.model_steps.specs.state.declared.open_request.OpenRequest.{OpenRequest}
use Rattle.model_steps.specs.state.declared.proxy_state.ProxyState.{ProxyState}
use Rattle.model_steps.specs.state.declared.branch.Phase.TheVariants.{Unheard, Heard, Cancelled, Done, Ended}
use Rattle.model_steps.specs.state.declared.open_request.Side.TheVariants.{Answering, Closing, Acknowledged, Closed}
use Rattle.model_steps.specs.state.State.{is_invite, is_answering, deadlines_of, has_left, has_key, is_success, is_provisional}
use Rattle.model_steps.specs.state.declared.open_request.Upward.{Upward}
use Rattle.model_steps.specs.context_model.Branches.{Change, settled, responded, send_failed, cancelled, has_success}
use Rattle.model_steps.specs.state.Arrival.{Arrival}
use Rattle.model_steps.specs.verdict_model.Verdict.{Registered, Bound, Refused, Verdict, Drop, Respond, Copy, AckOn, Cancel, Answer}
use Rattle.model_steps.specs.verdict_model.Verdict.{InDialog, Challenge, Deny, Send, Register, verdict_of}
use Rattle.model_steps.specs.context_model.Opening.{arriving, forking, branches_from, dialog_branch, tried, trying}
use Rattle.model_steps.specs.Effect.{challenge_status}
use Rattle.model_steps.specs.Step.{Act, Given, Passing, IsStep, IsOverdue, NoneBy, NoneAgainBy, is_failed, moment_of, arrival_of}
use Rattle.sip_model.specs.Run.{Link, IsChain, under}

-- ---- open requests are told apart

-- no key is that of two open requests (RFC 3261 17.2.3)
abbrev pub KeysDiffer : List OpenRequest → Type 0
KeysDiffer requests = (key : TransactionKey) → count_by (has_key key) requests ≤ 1

-- whether a request came in the datagram of this number
abbrev pub is_numbered : ℕ → OpenRequest → Bool
is_numbered number r = r.number == number

-- no number is that of two open requests, and each is below the next datagram's
pub record AreNumbered (next : ℕ) (requests : List OpenRequest) : Type 0 where
  pub differ : (number : ℕ) → count_by (is_numbered number) requests ≤ 1
  pub are_below : (number : ℕ) → next ≤ number → count_by (is_numbered number) requests ≡ 0

-- open requests stand in rising order of their numbers
abbrev pub AreRising : List OpenRequest → Type 0
AreRising [] = Unit {0}
AreRising (r ∷ rs) = AllByRecursion (λ (later : OpenRequest). r.number < later.number) rs × AreRising rs

-- ---- deadlines

-- Once a datagram was taken, or time passed up to a moment, no deadline stands at or before the state's moment, and nothing is to go
-- again by then: what had to fire has fired, what was
-- to go again went, and all that was armed since is later.
abbrev pub HasFired : Act → ProxyState → Type 0
HasFired (Given (Datagram at word from bytes)) state = NoneBy state.moment state.requests × NoneAgainBy state.moment state.requests
HasFired (Given (Time at)) state = NoneBy state.moment state.requests × NoneAgainBy state.moment state.requests
HasFired (Given (Fault at ticket)) state = Unit {0}
HasFired (Passing at) state = Unit {0}

-- ---- the final answer of a request

-- What changes an open request at a moment: a response to one of its branches, a deadline of its own or of a branch, a send of a
-- branch that failed, or the caller's CANCEL.
pub data IsChangeOf (server : Server) (now : ℕ) (r : OpenRequest) : Change → Type 0 where
  ByResponse : (b : Branch) (status : ℕ) (m : Message) → Contains r.branches b → IsChangeOf server now r (responded server now r b status m)
  ByDeadline : (change : Change) → IsOverdue server now r change → IsChangeOf server now r change
  ByFault : (b : Branch) (number : ℕ) → Contains r.branches b → is_failed number b ≡ true → IsChangeOf server now r (send_failed server now r b)
  ByCancel : IsChangeOf server now r (cancelled server now r)

-- whether an answer that goes to the caller is a final one (RFC 3261 7.2)
abbrev pub is_final_answer : Upward → Bool
is_final_answer u = not (is_provisional u.status)

-- A request had its final answer before a change of it: each final answer that still goes up is a 2xx, of an INVITE whose last
-- answer was a 2xx; and it owes no answer again
-- (RFC 3261 16.7 step 5, RFC 6026 7.1).
pub record AddsSuccessesAlone (r : OpenRequest) (change : Change) : Type 0 where
  pub are_further : AllByRecursion (λ (u : Upward). is_final_answer u ≡ true → (is_success u.status ≡ true) × (is_invite r ≡ true)
      × (has_success r.answer ≡ true)) change.upward
  pub stays_answered : is_answering change.request.side ≡ false
  pub keeps_success : has_success change.request.answer ≡ has_success r.answer

-- A request had no final answer before a change of it: at most one goes up; with it the request has its final answer, which is its
-- last, and without it the request owes one as before.
pub record AnswersOnce (change : Change) : Type 0 where
  pub is_one : count_by is_final_answer change.upward ≤ 1
  pub is_answered : 1 ≤ count_by is_final_answer change.upward → is_answering change.request.side ≡ false
  pub still_owes : count_by is_final_answer change.upward ≡ 0 → is_answering change.request.side ≡ true
  pub is_last : AllByRecursion (λ (u : Upward). is_final_answer u ≡ true → has_success change.request.answer ≡ is_success u.status) change.upward

-- ---- the final answers of a history

-- a final answer that goes up: the number of the datagram that brought its request, whether that is an INVITE, and its status
pub record FinalAnswer : Type 0 where
  pub number : ℕ
  pub is_to_invite : Bool
  pub status : ℕ

-- those among the answers that go up for an open request
abbrev pub finals_up : OpenRequest → List Upward → List FinalAnswer
finals_up r upward = map (λ (u : Upward). record { number = r.number; is_to_invite = is_invite r; status = u.status }) (filter is_final_answer upward)

-- those of a change of an open request
abbrev pub change_finals : Change → List FinalAnswer
change_finals change = finals_up change.request change.upward

-- the one of a request that is answered at once
abbrev pub reply_finals : Arrival → Message → ℕ → List FinalAnswer
reply_finals a m status = if is_provisional status then [] else record {
  number = a.number;
  is_to_invite = is_invite (arriving a m);
  status = status;
} ∷ []

-- those of a request that is sent to its branches, in the step that opens it
abbrev pub forked_finals : Server → ℕ → OpenRequest → List FinalAnswer
forked_finals server now r = change_finals (settled server now [] None (tried now (trying server r) r)) ++ finals_up r (trying server r)

-- those of a request that was let through, by its targets
abbrev pub sending_finals : Server → Arrival → Message → Targets → List FinalAnswer
sending_finals server a m Targets.NotFound = reply_finals a m 404
sending_finals server a m Targets.Unavailable = reply_finals a m 480
sending_finals server a m (Targets.Bindings targets) = forked_finals server a.now
    (forking a m (branches_from a.now 1 (target_list (Targets.Bindings targets))))
sending_finals server a m (Targets.Hop uri address) = forked_finals server a.now
    (forking a m (branches_from a.now 1 (target_list (Targets.Hop uri address))))

-- those of a REGISTER that was let through
abbrev pub registered_finals : Arrival → Message → Registered → List FinalAnswer
registered_finals a m (Bound rows) = reply_finals a m 200
registered_finals a m (Refused status extras) = reply_finals a m status

-- those that a verdict on a message sends
abbrev pub verdict_finals : Server → Arrival → Message → Verdict → List FinalAnswer
verdict_finals server a m Drop = []
verdict_finals server a m (Respond r b status) = change_finals (responded server a.now r b status m)
verdict_finals server a m (Copy r) = []
verdict_finals server a m (AckOn address id) = []
verdict_finals server a m (Cancel None) = reply_finals a m 481
verdict_finals server a m (Cancel (Some r)) = change_finals (cancelled server a.now r) ++ reply_finals a m 200
verdict_finals server a m (Answer status extras) = reply_finals a m status
verdict_finals server a m (InDialog address id) = forked_finals server a.now (forking a m (dialog_branch server a.now m address ∷ []))
verdict_finals server a m (Challenge q) = reply_finals a m (challenge_status q.operation)
verdict_finals server a m (Deny q id) = reply_finals a m 403
verdict_finals server a m (Send q id targets) = sending_finals server a m targets
verdict_finals server a m (Register q id outcome) = registered_finals a m outcome

-- those of a datagram, if it says a message
abbrev pub datagram_finals : Server → Arrival → Option (Message × Verdict) → List FinalAnswer
datagram_finals server a None = []
datagram_finals server a (Some x) = verdict_finals server a x.0 x.1

-- those of a branch whose request could not be sent
abbrev pub branch_finals : Server → ℕ → OpenRequest → Option Branch → List FinalAnswer
branch_finals server now r None = []
branch_finals server now r (Some b) = change_finals (send_failed server now r b)

-- those of a send that failed
abbrev pub fault_finals : Server → ℕ → Ticket → Option OpenRequest → List FinalAnswer
fault_finals server now ticket None = []
fault_finals server now ticket (Some r) = branch_finals server now r (find (is_failed ticket.branch) r.branches)

-- those of a step; which of several tied deadlines passes is the step's to say
abbrev pub step_finals : (server : Server) (old : ProxyState) (act : Act) (out : StepOut) (new : ProxyState) → IsStep server old act out new
    → List FinalAnswer
step_finals server old (Given (Datagram at word from bytes)) out new step = datagram_finals server (arrival_of old at word from)
    (verdict_of server old (arrival_of old at word from) bytes)
step_finals server old (Given (Time at)) out new step = []
step_finals server old (Given (Fault at ticket)) out new step =
    fault_finals server (moment_of old at) ticket (find (λ (r : OpenRequest). r.number == ticket.datagram) old.requests)
step_finals server old (Passing at) out new (inl quiet) = []
step_finals server old (Passing at) out new (inr (inl passed)) = change_finals passed.change
step_finals server old (Passing at) out new (inr (inr goes)) = []

-- those of a history, the newest step's first
abbrev pub history_finals : (server : Server) (first : ProxyState) (history : List Link) (last : ProxyState)
    → IsChain server first history last → List FinalAnswer
history_finals server first [] last chain = []
history_finals server first (link ∷ history) last chain =
    step_finals (under server link.config) link.before link.act link.out link.after chain.1 ++ history_finals server first history link.before chain.2

-- those to the request of one number
abbrev pub finals_to : ℕ → List FinalAnswer → List FinalAnswer
finals_to number finals = filter (λ (f : FinalAnswer). f.number == number) finals

-- a 2xx to an INVITE
abbrev pub IsAccepting : FinalAnswer → Type 0
IsAccepting f = (f.is_to_invite ≡ true) × (is_success f.status ≡ true)

-- at most one final answer, or several 2xx to an INVITE
abbrev pub AreOneAnswer : List FinalAnswer → Type 0
AreOneAnswer finals = (length finals ≤ 1) ⊎ AllByRecursion IsAccepting finals

-- ---- every open request can end

-- an open request isn't one that has left, and one of its deadlines stands
pub record CanEnd (r : OpenRequest) : Type 0 where
  pub stays_open : has_left r ≡ false
  pub due : ℕ
  pub has_deadline : Contains (deadlines_of r) due

-- How many deadlines may still pass of a branch if nothing else happens: of one that was heard its own, after which it is sent a
-- CANCEL, the one that it has from then on, and the CANCEL's.
abbrev pub phase_left : Phase → ℕ
phase_left (Unheard due) = 1
phase_left (Heard due) = 3
phase_left (Cancelled due) = 1
phase_left (Done due f) = 1
phase_left Ended = 0

-- the same of the answering side: while it owes an answer, the one that it will have
abbrev pub side_left : Side → ℕ
side_left Answering = 1
side_left (Closing due) = 1
side_left (Acknowledged due) = 1
side_left Closed = 0

-- how many deadlines of an open request may still pass if nothing else happens
abbrev pub deadlines_left : OpenRequest → ℕ
deadlines_left r = side_left r.side + sum_by (λ (b : Branch). phase_left b.phase) r.branches
