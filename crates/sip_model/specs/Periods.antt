-- Runs under more than one configuration: between two steps another one may come into force, and nothing else changes.
use Rattle.std.specs.Prelude.{◌≡◌, ℕ, List, [], ◌∷◌, ◌++◌, reverse, Option, None}
use Rattle.sip_event.specs.declared.event.StepOut.{StepOut}
use Rattle.sip_event.specs.declared.event.Event.{Event}
use Rattle.sip_config_types.specs.declared.config.Config.{Config}
use Rattle.model_steps.specs.state.declared.server.Server.{Server}
use Rattle.model_steps.specs.state.declared.proxy_state.ProxyState.{ProxyState}
use Rattle.sip_model.specs.Run.{Link, under, IsChain, events_of, steps_of, IsPaced, IsRun}

-- a configuration, and the events that are taken while it is in force
pub record Period : Type 0 where
  pub config : Config
  pub events : List Event

-- the events of some periods
abbrev pub events_in : List Period → List Event
events_in [] = []
events_in (period ∷ periods) = period.events ++ events_in periods

-- up to which moment time passes behind the last event of a period: of the last one alone it may be one of an event that wasn't taken
abbrev pub until_of : List Period → Option ℕ → Option ℕ
until_of [] until = until
until_of (period ∷ periods) until = None

-- no step
pub record IsNoStep (first : ProxyState) (steps : List StepOut) (history : List Link) (last : ProxyState) : Type 0 where
  pub no_steps : steps ≡ []
  pub no_history : history ≡ []
  pub stays : last ≡ first

-- a run under the configuration of a period, and behind it others, from the state to which it led
pub record RunsFirst (server : Server) (first : ProxyState) (period : Period) (until : Option ℕ) (steps : List StepOut) (history : List Link)
    (IsBehind : ProxyState → List StepOut → List Link → Type 0) : Type 0 where
  pub own : List StepOut
  pub further : List StepOut
  pub earlier : List Link
  pub later : List Link
  pub middle : ProxyState
  pub is_run : IsRun (under server period.config) first period.events until own earlier middle
  pub behind : IsBehind middle further later
  pub of_steps : steps ≡ own ++ further
  pub of_history : history ≡ later ++ earlier

-- These steps are a run over periods, the first one first: over the events of each a run under its configuration, from the state to
-- which the one before led. A period ends behind its last event; what is due by the first event of the next one happens under the next
-- configuration.
abbrev pub IsRunUnder : Server → ProxyState → List Period → Option ℕ → List StepOut → List Link → ProxyState → Type 0
IsRunUnder server first [] until steps history last = IsNoStep first steps history last
IsRunUnder server first (period ∷ periods) until steps history last =
    RunsFirst server first period (until_of periods until) steps history
    (λ middle further later. IsRunUnder server middle periods until further later last)

-- these steps, for these events, are one history, whichever configurations were in force
pub record IsOneHistory (server : Server) (first : ProxyState) (events : List Event) (until : Option ℕ) (steps : List StepOut)
    (history : List Link) (last : ProxyState) : Type 0 where
  pub chain : IsChain server first history last
  pub paced : IsPaced until history
  pub of_events : reverse (events_of history) ≡ events
  pub of_steps : reverse (steps_of history) ≡ steps

-- periods have a run that begins in a state
pub record HasRunUnder (server : Server) (start : ProxyState) (periods : List Period) (until : Option ℕ) : Type 0 where
  pub steps : List StepOut
  pub history : List Link
  pub last : ProxyState
  pub is_run : IsRunUnder server start periods until steps history last
