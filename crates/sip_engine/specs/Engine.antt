-- What a running server is.
use Rattle.std.specs.Prelude.{ℕ, List}
use Rattle.sip_model.specs.Run.{Link, IsChain}
use Rattle.sip_verdict.specs.state.State.{first_state}
use Rattle.sip_verdict.specs.state.declared.proxy_state.ProxyState.{ProxyState}
use Rattle.sip_verdict.specs.state.declared.server.Server.{Server}
use Rattle.sip_engine_request.specs.proxy.Proxy.{Secrets}
use Rattle.sip_timers.specs.declared.timer.Timer.{Timer}

-- the configured server, the state that it is in, the timers that stand, in the order in which they fire, and the secrets of its tables
pub record Engine : Type 0 where
  pub server : Server
  pub state : ProxyState
  pub timers : List Timer
  pub secrets : Secrets

-- Steps of the model lead from a first state to this one: whatever holds over every history holds here.
pub record IsReached (server : Server) (state : ProxyState) : Type 0 where
  pub first : ℕ
  pub history : List Link
  pub chain : IsChain server (first_state first) history state
