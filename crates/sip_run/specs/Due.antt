-- What is due by a moment, and that it happens.
use Rattle.std.specs.Prelude.{◌≡◌, ◌≤◌, ◌<◌, ◌⊎◌, ℕ, map, Contains, None}
use Rattle.sip_event.specs.declared.event.StepOut.{StepOut}
use Rattle.sip_engine.specs.state.declared.server.Server.{Server}
use Rattle.sip_engine.specs.state.declared.proxy_state.ProxyState.{ProxyState}
use Rattle.sip_engine.specs.state.State.{deadlines}
use Rattle.sip_engine.specs.context_model.Retransmission.{resends}
use Rattle.sip_engine.specs.steps_model.Step.{NoneBy, NoneAgainBy, moment_of}
use Rattle.sip_engine.specs.model.Ends.{steps_left}
use Rattle.sip_engine.specs.Engine.{Engine}
use Rattle.sip_engine.specs.StepError.{refusal_at}
use Rattle.model_transactions.specs.Queue.{entry_of}
use Rattle.sip_engine.specs.model.TimerOrder.{IsFirstOf, IsQueueAfter, Standing}

-- nothing is due by a moment
pub record NothingDueBy (moment : ℕ) (state : ProxyState) : Type 0 where
  pub none : NoneBy moment state.requests
  pub none_again : NoneAgainBy moment state.requests

-- by a moment a deadline passes, or something goes again
pub record IsDueBy (moment : ℕ) (state : ProxyState) : Type 0 where
  pub due : ℕ
  pub is_due : Contains (deadlines state.requests) due ⊎ Contains (resends state.requests) due
  pub in_time : due ≤ moment

-- Something is due by a moment, of those that the server takes, and the first of it happens, at its own moment: of what is due at one moment,
-- what the first of the timers that stand is for. Fewer such steps are left by then.
pub record Fires (server : Server) (old : Standing) (at : ℕ) (out : StepOut) (new : Standing) : Type 0 where
  pub not_refused : refusal_at at ≡ None
  pub is_due : IsDueBy (moment_of old.state at) old.state
  pub happens : IsFirstOf server old.queue old.state at out new.state
  pub queue : IsQueueAfter old new
  pub fewer_left : steps_left at new.state < steps_left at old.state

-- a server's state, and the timers that stand in it, whatever their keys
abbrev pub standing_of : Engine → Standing
standing_of engine = record { state = engine.state; queue = map entry_of engine.timers }
