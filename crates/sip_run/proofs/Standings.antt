-- What a server stands at, from its state and its timers.
use Rattle.std.proofs.Common.{◌≡◌, List, map, ap₂}
use Rattle.sip_timers.specs.declared.timer.Timer.{Timer}
use Rattle.sip_engine.specs.state.declared.proxy_state.ProxyState.{ProxyState}
use Rattle.sip_engine.specs.Engine.{Engine}
use Rattle.model_transactions.specs.Queue.{entry_of}
use Rattle.sip_engine.specs.model.TimerOrder.{Standing}
use Rattle.sip_run.specs.Due.{standing_of}

-- a state, with these timers
abbrev pub with_timers : ProxyState → List Timer → Standing
with_timers state timers = record { state = state; queue = map entry_of timers }

pub standing_is : (engine : Engine) (state : ProxyState) (timers : List Timer) → engine.state ≡ state → engine.timers ≡ timers
    → standing_of engine ≡ with_timers state timers
standing_is engine state timers same stand = ap₂ with_timers same stand
