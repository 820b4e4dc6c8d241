-- A server over a list of events: the steps that it took, and why it took no more.
use Rattle.std.specs.Prelude.{◌≡◌, ◌⊎◌, ⊤, ℕ, List, [], ◌∷◌, ◌++◌, Option, Some, None}
use Rattle.sip_event.specs.declared.event.Event.{Event}
use Rattle.sip_event.specs.declared.event.StepOut.{StepOut}
use Rattle.sip_config_types.specs.declared.config.Config.{Config}
use Rattle.sip_engine.specs.state.declared.server.Server.{Server}
use Rattle.sip_engine.specs.state.declared.proxy_state.ProxyState.{ProxyState}
use Rattle.sip_engine.specs.state.State.{first_state}
use Rattle.sip_engine.specs.steps_model.Step.{Act, Given, Passing, moment_of}
use Rattle.sip_engine.specs.model.Run.{Link, IsRun, event_moment, first_moment}
use Rattle.sip_engine.specs.model.Access.{Access}
use Rattle.sip_engine.specs.model.Bounds.{IsBounded}
use Rattle.sip_engine.specs.declared.error.StepError.{StepError}
use Rattle.sip_engine.specs.declared.error.StepError.TheVariants.{NoMemory}
use Rattle.sip_engine.specs.StepError.{refusal_at}
use Rattle.model_transactions.specs.Queue.{Entry}
use Rattle.sip_engine.specs.model.TimerOrder.{AllQueued, IsFirstOf, Standing, queue_from}
use Rattle.sip_run.specs.Due.{IsDueBy, NothingDueBy}
use Rattle.sip_run.specs.Refusals.{RefusesStep, refusal_of_event}

-- the server of a configuration, started with a word
abbrev pub server_of : Config → ℕ → Server
server_of config word = record { config = config; word = word }

-- An event comes in its turn: all that was due by its moment has happened, and the server doesn't refuse it.
pub record IsInTurn (state : ProxyState) (event : Event) : Type 0 where
  pub none_due : NothingDueBy (moment_of state (event_moment event)) state
  pub not_refused : refusal_of_event state event ≡ None

-- the same of each event of a history; and time passes only where the first of what is due happens, in the order in which timers stand
abbrev pub IsTurn : Server → List Entry → ProxyState → Act → StepOut → ProxyState → Type 0
IsTurn server queue before (Given event) out after = IsInTurn before event
IsTurn server queue before (Passing at) out after = IsFirstOf server queue before at out after

abbrev pub AreTurns : Server → List Entry → List Link → Type 0
AreTurns server queue history = AllQueued (λ (standing : List Entry) (link : Link). IsTurn server standing link.before link.act link.out link.after) queue history

-- Nothing more was done before an event: something is due by its moment, and that is refused; or nothing is, and the event's own step is refused.
abbrev pub IsRefusedAt : ProxyState → Event → StepError → Type 0
IsRefusedAt last event e =
    (IsDueBy (moment_of last (event_moment event)) last × RefusesStep (refusal_at (event_moment event)) e)
    ⊎ (NothingDueBy (moment_of last (event_moment event)) last × RefusesStep (refusal_of_event last event) e)

-- Why no more was done in a state, where these events are left: none is; or there was a refusal before the first of them.
abbrev pub IsAtEnd : ProxyState → List Event → Option StepError → Type 0
IsAtEnd last [] None = ⊤
IsAtEnd last [] (Some e) = ⊥
IsAtEnd last (event ∷ left) None = ⊥
IsAtEnd last (event ∷ left) (Some e) = IsRefusedAt last event e

-- memory ran out before there was a server, and nothing was done
pub record IsUnopened (history : List Link) (stopped : Option StepError) : Type 0 where
  pub nothing : history ≡ []
  pub no_memory : stopped ≡ Some NoMemory

-- A server that begins with a datagram's number took events in their order, all or up to a refusal, each in its turn. These steps
-- are a run for those, in which time passed up to the moment
-- of the first that is left; each step is lawful by its history, as `Access` says, and the history is bounded, as `IsBounded` says.
pub record IsRunOver (server : Server) (first : ℕ) (events : List Event) (steps : List StepOut) (stopped : Option StepError) : Type 0 where
  pub taken : List Event
  pub left : List Event
  pub history : List Link
  pub last : ProxyState
  pub cut : events ≡ taken ++ left
  pub is_run : IsRun server (first_state first) taken (first_moment left None) steps history last
  pub turns : AreTurns server [] history
  pub access : Access server history
  pub bounded : IsBounded server history
  pub ended : IsAtEnd last left stopped ⊎ IsUnopened history stopped

-- ---- inside

-- these events, each in its turn, lead from one state to another, with the timers that stand there, and their steps were listed
pub record Goes (server : Server) (old new : Standing) (events : List Event) (until : Option ℕ) (before after : List StepOut) : Type 0 where
  pub steps : List StepOut
  pub history : List Link
  pub is_run : IsRun server old.state events until steps history new.state
  pub turns : AreTurns server old.queue history
  pub queue : new.queue ≡ queue_from old.queue history
  pub listed : after ≡ before ++ steps

-- time passed up to a moment, and what is due next by it was refused
pub record FiringHalts (server : Server) (old : Standing) (at : ℕ) (before after : List StepOut) (e : StepError) : Type 0 where
  pub last : Standing
  pub goes : Goes server old last [] (Some at) before after
  pub is_due : IsDueBy (moment_of last.state at) last.state
  pub refused : RefusesStep (refusal_at at) e

-- time passed up to the moment of an event, and then there was a refusal
pub record Halts (server : Server) (old : Standing) (event : Event) (before after : List StepOut) (e : StepError) : Type 0 where
  pub last : Standing
  pub goes : Goes server old last [] (Some (event_moment event)) before after
  pub refused : IsRefusedAt last.state event e

-- some events were taken, and before the next there was a refusal
pub record Stops (server : Server) (old : Standing) (events : List Event) (before after : List StepOut) (e : StepError) : Type 0 where
  pub taken : List Event
  pub event : Event
  pub left : List Event
  pub last : Standing
  pub cut : events ≡ taken ++ event ∷ left
  pub goes : Goes server old last taken (Some (event_moment event)) before after
  pub refused : IsRefusedAt last.state event e
