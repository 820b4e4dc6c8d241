-- Two runs over the same events: what each lets happen of what is due, and in which order.
use Rattle.std.specs.Prelude.{◌≡◌, ◌⊎◌, ⊤, ℕ, Bool, true, false, List, [], ◌∷◌, Option, Some, None}
use mathlib.Core.Logic.{inl, inr}
use Rattle.std.specs.List.{AllByRecursion}
use Rattle.sip_event.specs.declared.packet.Packet.{Packet}
use Rattle.sip_event.specs.declared.event.StepOut.{StepOut}
use Rattle.sip_event.specs.declared.event.Event.{Event}
use Rattle.sip_event.specs.declared.event.Event.TheVariants.{Datagram, Time, Fault}
use Rattle.sip_config_types.specs.declared.config.Config.{Config}
use Rattle.model_steps.specs.state.declared.server.Server.{Server}
use Rattle.model_steps.specs.state.declared.open_request.OpenRequest.{OpenRequest}
use Rattle.model_steps.specs.state.declared.proxy_state.ProxyState.{ProxyState}
use Rattle.model_steps.specs.state.SameState.{SameState}
use Rattle.model_steps.specs.context_model.Branches.{Change}
use Rattle.model_steps.specs.context_model.Retransmission.{IsResent, OfAnswer, OfRequest}
use Rattle.model_steps.specs.Step.{Act, Given, Passing, IsDeadline, IsResend, IsOverdue, OfSide, OfBranch, NoneBy, NoneAgainBy, moment_of}
use Rattle.sip_model.specs.Run.{Link, under}
use Rattle.model_transactions.specs.Queue.{Entry}
use Rattle.sip_model.specs.TimerOrder.{AllQueued, IsFirstOf}

-- ---- what happens as time passes

-- whose deadline passes: a branch's, by its place in the open request, or the answering side's
abbrev pub overdue_branch : {server : Server} {due : ℕ} {r : OpenRequest} {change : Change} → IsOverdue server due r change → Option ℕ
overdue_branch (OfSide is) = None
overdue_branch (OfBranch b there is) = Some there.0

-- of which part something goes again
abbrev pub resent_branch : {server : Server} {due : ℕ} {r : OpenRequest} {packets : List Packet} {next : OpenRequest}
    → IsResent server due r packets next → Option ℕ
resent_branch (OfAnswer is) = None
resent_branch (OfRequest b there is) = Some there.0

-- What is due that happens: a deadline, or something that goes again; of which open request, by its place among them; and of which of its
-- branches, by its place, or of its answering side.
pub record Due : Type 0 where
  pub is_deadline : Bool
  pub request : ℕ
  pub branch : Option ℕ

-- what is due that happens in a step
abbrev pub due_of : {server : Server} {old : ProxyState} {at : ℕ} {out : StepOut} {new : ProxyState}
    → IsDeadline server old at out new ⊎ IsResend server old at out new → Due
due_of (inl passed) = record { is_deadline = true; request = passed.is_open.0; branch = overdue_branch passed.passes }
due_of (inr gone) = record { is_deadline = false; request = gone.is_open.0; branch = resent_branch gone.goes }

-- ---- prompt runs

-- Time passes only where something that is due happens; and all that is due by the moment of a fault happens before it, as it does before a
-- datagram, and before time is said to have passed.
abbrev pub IsPrompt : Server → ProxyState → Act → StepOut → ProxyState → Type 0
IsPrompt server before (Given (Datagram at word from bytes)) out after = ⊤
IsPrompt server before (Given (Time at)) out after = ⊤
IsPrompt server before (Given (Fault at ticket)) out after = NoneBy (moment_of before at) before.requests × NoneAgainBy (moment_of before at) before.requests
IsPrompt server before (Passing at) out after = IsDeadline server before at out after ⊎ IsResend server before at out after

-- the same of each step of a history, under the configuration that was in force then
abbrev pub ArePrompt : Server → List Link → Type 0
ArePrompt server history = AllByRecursion (λ (link : Link). IsPrompt (under server link.config) link.before link.act link.out link.after) history

-- What a step is taken for: an event, or what is due that happens.
pub data Label : Type 0 where
  Took : Event → Label
  Happened : Due → Label

-- what a step of a prompt history is taken for
abbrev pub label_of : (server : Server) (before : ProxyState) (act : Act) (out : StepOut) (after : ProxyState) → IsPrompt server before act out after → Label
label_of server before (Given event) out after prompt = Took event
label_of server before (Passing at) out after prompt = Happened (due_of prompt)

-- what its steps are taken for, the newest first
abbrev pub labels_of : (server : Server) (history : List Link) → ArePrompt server history → List Label
labels_of server [] prompt = []
labels_of server (link ∷ history) prompt =
    label_of (under server link.config) link.before link.act link.out link.after prompt.0 ∷ labels_of server history prompt.1

-- the configurations under which they were taken, the newest first
abbrev pub configurations_of : List Link → List Config
configurations_of [] = []
configurations_of (link ∷ history) = link.config ∷ configurations_of history

-- ---- runs in order

-- A step is prompt, and where time passes, what happens is of the first of the timers that stand.
abbrev pub IsOrderly : Server → List Entry → ProxyState → Act → StepOut → ProxyState → Type 0
IsOrderly server queue before (Given event) out after = IsPrompt server before (Given event) out after
IsOrderly server queue before (Passing at) out after = IsFirstOf server queue before at out after

-- the same of each step of a history, under the configuration that was in force then, where these timers stood before the first of them
abbrev pub AreOrderly : Server → List Entry → List Link → Type 0
AreOrderly server queue history =
    AllQueued (λ (standing : List Entry) (link : Link). IsOrderly (under server link.config) standing link.before link.act link.out link.after) queue history

-- ---- what two runs have in common

-- two runs took the same steps, and their last states are the same
pub record AreOne (steps others : List StepOut) (last end : ProxyState) : Type 0 where
  pub steps_are : steps ≡ others
  pub state : SameState last end
