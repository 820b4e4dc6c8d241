-- Steps and runs that go on from another state in the same way: the same moments, packets and records, step by step.
use Rattle.std.specs.Prelude.{ℕ, List, ◌++◌, Option}
use Rattle.sip_event.specs.declared.event.Event.{Event}
use Rattle.sip_event.specs.declared.event.StepOut.{StepOut}
use Rattle.model_steps.specs.state.declared.server.Server.{Server}
use Rattle.model_steps.specs.state.declared.proxy_state.ProxyState.{ProxyState}
use Rattle.model_steps.specs.state.State.{first_state}
use Rattle.model_steps.specs.Step.{Act, IsStep}
use Rattle.sip_model.specs.Run.{Link, IsChain, IsRun}
use Rattle.sip_model.specs.Periods.{Period, IsRunUnder}
use Rattle.sip_model.specs.Access.{Access}
use Rattle.sip_model.specs.Bounds.{IsBounded}
use Rattle.sip_model.specs.SameAhead.{SameAhead}

-- a step that led to a state is taken from another state, too, with the same out, and leads to one that is the same ahead
pub record StepsFrom (server : Server) (other : ProxyState) (act : Act) (out : StepOut) (new : ProxyState) : Type 0 where
  pub after : ProxyState
  pub is_step : IsStep server other act out after
  pub same : SameAhead new after

-- the steps of a run that led to a state are a run from another state, too
pub record RunsFrom (server : Server) (other : ProxyState) (events : List Event) (until : Option ℕ) (steps : List StepOut)
    (last : ProxyState) : Type 0 where
  pub history : List Link
  pub after : ProxyState
  pub is_run : IsRun server other events until steps history after
  pub same : SameAhead last after

-- and so are those of a run over periods
pub record RunsUnderFrom (server : Server) (other : ProxyState) (periods : List Period) (until : Option ℕ) (steps : List StepOut)
    (last : ProxyState) : Type 0 where
  pub history : List Link
  pub after : ProxyState
  pub is_run : IsRunUnder server other periods until steps history after
  pub same : SameAhead last after

-- These steps, behind a history, are one history with it: each is lawful by all that went before, as `Access` says, and the whole is
-- bounded, as `IsBounded` says.
pub record IsOneBehind (server : Server) (first : ℕ) (past : List Link) (start : ProxyState) (periods : List Period) (until : Option ℕ)
    (steps : List StepOut) : Type 0 where
  pub history : List Link
  pub last : ProxyState
  pub is_run : IsRunUnder server start periods until steps history last
  pub chain : IsChain server (first_state first) (history ++ past) last
  pub access : Access server (history ++ past)
  pub bounded : IsBounded server (history ++ past)
