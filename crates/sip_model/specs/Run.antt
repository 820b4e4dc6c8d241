-- Whole runs of a proxy, as histories of links, the newest first.
use Rattle.std.specs.Prelude.{◌≡◌, ℕ, List, [], ◌∷◌, reverse, Option, Some, None}
use Rattle.std.specs.List.{AllByRecursion}
use Rattle.sip_event.specs.declared.event.StepOut.{StepOut}
use Rattle.sip_event.specs.declared.event.Event.{Event}
use Rattle.sip_event.specs.declared.event.Event.TheVariants.{Datagram, Time, Fault}
use Rattle.sip_config_types.specs.declared.config.Config.{Config}
use Rattle.model_steps.specs.state.declared.server.Server.{Server}
use Rattle.model_steps.specs.state.declared.proxy_state.ProxyState.{ProxyState}
use Rattle.model_steps.specs.Step.{Act, Given, Passing, IsStep}

-- A server under another configuration: what it is to others (host, port, IP address, own domains and realm) and the word stay.
abbrev pub under : Server → Config → Server
under server config = record server { config = record config { own = server.config.own; realm = server.config.realm } }

-- a step: the configuration that was in force, the state before it, what it was taken for, what it put out, and the state after it
pub record Link : Type 0 where
  pub config : Config
  pub before : ProxyState
  pub act : Act
  pub out : StepOut
  pub after : ProxyState

-- a history from one state to another: each step is a proxy's, and begins where the one before it ended
abbrev pub IsChain : Server → ProxyState → List Link → ProxyState → Type 0
IsChain server first [] last = last ≡ first
IsChain server first (link ∷ history) last =
    (last ≡ link.after) × IsStep (under server link.config) link.before link.act link.out link.after × IsChain server first history link.before

-- some events with the one that a step is taken for in front, if it is taken for one
abbrev pub event_of : Act → List Event → List Event
event_of (Given event) events = event ∷ events
event_of (Passing at) events = events

-- the events of a history, newest first
abbrev pub events_of : List Link → List Event
events_of [] = []
events_of (link ∷ history) = event_of link.act (events_of history)

-- its steps, newest first
abbrev pub steps_of : List Link → List StepOut
steps_of [] = []
steps_of (link ∷ history) = link.out ∷ steps_of history

-- the moment of an event
abbrev pub event_moment : Event → ℕ
event_moment (Datagram at word from bytes) = at
event_moment (Time at) = at
event_moment (Fault at ticket) = at

-- the moment of the event that comes next, seen from before a step
abbrev pub next_moment : Option ℕ → Act → Option ℕ
next_moment next (Given event) = Some (event_moment event)
next_moment next (Passing at) = next

-- time passes up to the moment of the event that comes next, and behind the last event not at all
abbrev pub IsUpTo : Option ℕ → Act → Type 0
IsUpTo next (Given event) = Unit {0}
IsUpTo None (Passing at) = ⊥
IsUpTo (Some moment) (Passing at) = at ≡ moment

-- the same of each step of a history: no step runs ahead of the events
abbrev pub IsPaced : Option ℕ → List Link → Type 0
IsPaced next [] = Unit {0}
IsPaced next (link ∷ history) = IsUpTo next link.act × IsPaced (next_moment next link.act) history

-- the moment of the first of some events; without one a moment up to which time may pass
abbrev pub first_moment : List Event → Option ℕ → Option ℕ
first_moment [] until = until
first_moment (event ∷ events) until = Some (event_moment event)

-- a step that was taken while a configuration was in force
abbrev pub IsUnder : Config → Link → Type 0
IsUnder config link = link.config ≡ config

-- These steps, for these events, are a run of a proxy under one configuration: each event has its own step, before which time passes
-- step by step up to the event's moment. No step's moment passes a deadline
-- that stands, or one at which something goes again. Behind the last of these events time passes only up to the moment of one that
-- wasn't taken, if there was one.
pub record IsRun (server : Server) (first : ProxyState) (events : List Event) (until : Option ℕ) (steps : List StepOut)
    (history : List Link) (last : ProxyState) : Type 0 where
  pub chain : IsChain server first history last
  pub paced : IsPaced until history
  pub of_events : reverse (events_of history) ≡ events
  pub of_steps : reverse (steps_of history) ≡ steps
  pub configured : AllByRecursion (IsUnder server.config) history

-- events have a run that begins in a state
pub record HasRun (server : Server) (start : ProxyState) (events : List Event) (until : Option ℕ) : Type 0 where
  pub steps : List StepOut
  pub history : List Link
  pub last : ProxyState
  pub is_run : IsRun server start events until steps history last
