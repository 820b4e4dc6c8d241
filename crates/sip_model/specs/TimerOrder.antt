-- In which order what is due happens, as a function of the history: by the moment at which it is due, and at one moment in the order in
-- which it came to stand (RFC 3261 17).
use Rattle.std.specs.Prelude.{◌≡◌, ◌≢◌, ◌⊎◌, ℕ, List, [], ◌∷◌, Some}
use mathlib.Core.Logic.{inl, inr}
use Rattle.sip_event.specs.declared.event.StepOut.{StepOut}
use Rattle.sip_event.specs.declared.packet.Packet.{Packet}
use Rattle.sip_timers.specs.declared.timer.Owner.{Owner}
use Rattle.sip_timers.specs.declared.timer.Owner.TheVariants as Of
use Rattle.model_transactions.specs.Queue.{Entry, entries_of, queue_after}
use Rattle.model_transactions.specs.Ties.{owner_of}
use Rattle.model_steps.specs.context_model.Branches.{Change}
use Rattle.model_steps.specs.context_model.Retransmission.{IsResent, OfAnswer, OfRequest, answer_due, branch_due}
use Rattle.model_steps.specs.state.declared.open_request.OpenRequest.{OpenRequest}
use Rattle.model_steps.specs.state.declared.proxy_state.ProxyState.{ProxyState}
use Rattle.model_steps.specs.state.declared.server.Server.{Server}
use Rattle.model_steps.specs.state.State.{first_state}
use Rattle.model_steps.specs.Step.{IsDeadline, IsOverdue, IsResend, OfSide, OfBranch}
use Rattle.sip_model.specs.Run.{Link}

-- ---- the queue

-- the timers that stand after a history, the newest step first, in the order in which they fire, where these stood before it
abbrev pub queue_from : List Entry → List Link → List Entry
queue_from queue [] = queue
queue_from queue (link ∷ history) = queue_after (queue_from queue history) (entries_of link.after.requests)

-- those that stand after a history that began with no open request
abbrev pub queue_of : List Link → List Entry
queue_of history = queue_from [] history

-- what holds of each step of a history, and of the timers that stood before it
abbrev pub AllQueued : (List Entry → Link → Type 0) → List Entry → List Link → Type 0
AllQueued Holds queue [] = Unit {0}
AllQueued Holds queue (link ∷ history) = Holds (queue_from queue history) link × AllQueued Holds queue history

-- A state, and the timers that stand in it, in the order in which they fire.
pub record Standing : Type 0 where
  pub state : ProxyState
  pub queue : List Entry

-- those that stand after a step: what stood before it and stands still, in its place, and then what came to stand
abbrev pub IsQueueAfter : Standing → Standing → Type 0
IsQueueAfter old new = new.queue ≡ queue_after old.queue (entries_of new.state.requests)

-- a first state, in which none stands
abbrev pub first_standing : ℕ → Standing
first_standing first = record { state = first_state first; queue = [] }

-- ---- what happens first

-- the deadline that passes is that of the part whose timers have this owner, of which nothing goes again at that moment
abbrev pub IsOverdueOf : {server : Server} {due : ℕ} {r : OpenRequest} {change : Change} → Owner → IsOverdue server due r change → Type 0
IsOverdueOf {due = due} {r = r} owner (OfSide is) = (owner ≡ Of.Server) × (answer_due r ≢ Some due)
IsOverdueOf {due = due} {r = r} owner (OfBranch b there is) = (owner ≡ owner_of b) × (branch_due r b ≢ Some due)

-- what goes again is of that part
abbrev pub IsResentOf : {server : Server} {due : ℕ} {r : OpenRequest} {packets : List Packet} {next : OpenRequest} → Owner
    → IsResent server due r packets next → Type 0
IsResentOf owner (OfAnswer is) = owner ≡ Of.Server
IsResentOf owner (OfRequest b there is) = owner ≡ owner_of b

-- what happens is of the open request and the part that a timer names
abbrev pub IsOfEntry : {server : Server} {old : ProxyState} {at : ℕ} {out : StepOut} {new : ProxyState} → Entry
    → IsDeadline server old at out new ⊎ IsResend server old at out new → Type 0
IsOfEntry entry (inl passed) = (passed.request.number ≡ entry.name.request) × IsOverdueOf entry.name.owner passed.passes
IsOfEntry entry (inr gone) = (gone.request.number ≡ entry.name.request) × IsResentOf entry.name.owner gone.goes

-- The first timer of a queue fires, at its moment: something of the part that it names goes again, or else its deadline passes.
pub record IsFirstOf (server : Server) (queue : List Entry) (old : ProxyState) (at : ℕ) (out : StepOut) (new : ProxyState) : Type 0 where
  pub entry : Entry
  pub later : List Entry
  pub stands : queue ≡ entry ∷ later
  pub at_due : out.at ≡ entry.due
  pub happens : IsDeadline server old at out new ⊎ IsResend server old at out new
  pub is_its : IsOfEntry entry happens
