-- The timers that an open request names, and what a plan needs.
use Rattle.std.specs.Prelude.{ℕ, ◌≡◌, ◌≤◌, ◌+◌, ◌^◌, List, length}
use Rattle.sip_timers.specs.declared.timer.Timer.{Timer}
use Rattle.model_transactions.specs.state.declared.open_request.OpenRequest.{OpenRequest}
use Rattle.model_transactions.specs.Ties.{timers_of}
use Rattle.model_transactions.specs.declared.timer_keys.TimerKeys.{TimerKeys}
use Rattle.sip_request.specs.declared.request.RequestPlan.{RequestPlan}
use Rattle.sip_request.specs.declared.request.Request.{Request}
use Rattle.sip_request.specs.Near.{IsNear, most_timers}

-- the timers that an open request names, as they stand
abbrev pub named_by : Request → List Timer
named_by r = timers_of r.open_request r.side r.branches

-- each branch has its keys
abbrev pub HasKeys : OpenRequest → List TimerKeys → Type 0
HasKeys r keys = length keys ≡ length r.branches

-- A plan can be kept where timers were asked for up to this moment and so many take no memory: no timer of the request
-- after it is too far ahead, and there is room for all of them. Moments are numbers of 64 bits.
pub record IsReady (reached free : ℕ) (plan : RequestPlan) : Type 0 where
  pub keys : HasKeys plan.request plan.keys
  pub near : IsNear (reached + 2 ^ 30) plan.request
  pub room : most_timers plan.request ≤ free
  pub moments : reached + 2 ^ 30 ≤ 2 ^ 64
