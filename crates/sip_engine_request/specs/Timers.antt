-- Which timer a step is of: of what is due at one moment, what a timer was set for first happens first (RFC 3261 17).
use Rattle.std.specs.Prelude.{ℕ, ◌≡◌, ◌≢◌, ◌⊎◌, true, List, ◌∷◌, Some}
use mathlib.Core.Logic.{inl, inr}
use Rattle.sip_event.specs.declared.event.StepOut.{StepOut}
use Rattle.sip_event.specs.declared.packet.Packet.{Packet}
use Rattle.sip_proxy.specs.context_model.Branches.{Change}
use Rattle.sip_proxy.specs.fork.Due.{is_of}
use Rattle.sip_proxy.specs.steps_model.Step.{IsDeadline, IsOverdue, IsResend, OfSide, OfBranch}
use Rattle.sip_proxy.specs.context_model.Retransmission.{IsResent, OfAnswer, OfRequest, answer_due, branch_due}
use Rattle.sip_dialog_updates.specs.state.declared.open_request.OpenRequest.{OpenRequest}
use Rattle.sip_dialog_updates.specs.state.declared.proxy_state.ProxyState.{ProxyState}
use Rattle.sip_dialog_updates.specs.state.declared.server.Server.{Server}
use Rattle.sip_timers.specs.declared.timer.Owner.{Owner}
use Rattle.sip_timers.specs.declared.timer.Owner.TheVariants as Of
use Rattle.sip_timers.specs.declared.timer.Timer.{Timer}

-- the deadline that passes is that of the part whose timers have this owner, of which nothing goes again at that moment
abbrev pub IsOverdueOf : {server : Server} {due : ℕ} {r : OpenRequest} {change : Change} → Owner → IsOverdue server due r change → Type 0
IsOverdueOf {due = due} {r = r} owner (OfSide is) = (owner ≡ Of.Server) × (answer_due r ≢ Some due)
IsOverdueOf {due = due} {r = r} owner (OfBranch b there is) = (is_of owner b ≡ true) × (branch_due r b ≢ Some due)

-- what goes again is of that part
abbrev pub IsResentOf : {server : Server} {due : ℕ} {r : OpenRequest} {packets : List Packet} {next : OpenRequest} → Owner
    → IsResent server due r packets next → Type 0
IsResentOf owner (OfAnswer is) = owner ≡ Of.Server
IsResentOf owner (OfRequest b there is) = is_of owner b ≡ true

-- a deadline that passes, or something that goes again, is of the open request and the part that a timer names
abbrev pub IsOfTimer : {server : Server} {old : ProxyState} {at : ℕ} {out : StepOut} {new : ProxyState} → Timer
    → IsDeadline server old at out new ⊎ IsResend server old at out new → Type 0
IsOfTimer timer (inl passed) = (passed.request.number ≡ timer.name.request) × IsOverdueOf timer.name.owner passed.passes
IsOfTimer timer (inr gone) = (gone.request.number ≡ timer.name.request) × IsResentOf timer.name.owner gone.goes

-- The first of the timers that stand fires, at its moment: something of the part that it names goes again, or else its deadline passes.
pub record IsFiredFirst (server : Server) (timers : List Timer) (old : ProxyState) (at : ℕ) (out : StepOut) (new : ProxyState) : Type 0 where
  pub timer : Timer
  pub later : List Timer
  pub stands : timers ≡ timer ∷ later
  pub at_due : out.at ≡ timer.due
  pub happens : IsDeadline server old at out new ⊎ IsResend server old at out new
  pub is_its : IsOfTimer timer happens
