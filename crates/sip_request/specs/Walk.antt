-- The timers of branches from a place on.
use Rattle.std.specs.Prelude.{ℕ, List, drop}
use Rattle.sip_timers.specs.declared.timer.Timer.{Timer}
use Rattle.model_transactions.specs.state.declared.open_request.OpenRequest.{OpenRequest}
use Rattle.model_transactions.specs.Ties.{branches_timers}
use Rattle.model_transactions.specs.declared.timer_keys.TimerKeys.{TimerKeys}

-- the timers of the branches from a place on, as they stand
abbrev pub left_timers : OpenRequest → List TimerKeys → ℕ → List Timer
left_timers r keys place = branches_timers r (drop place r.branches) (drop place keys)
