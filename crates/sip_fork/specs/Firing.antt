-- In which order the timers of open requests fire (RFC 3261 17).
use Rattle.std.specs.Prelude.{◌≡◌, List}
use Rattle.sip_timers.specs.declared.timer.Timer.{Timer}
use Rattle.sip_dialog_updates.specs.state.declared.open_request.OpenRequest.{OpenRequest}
use Rattle.sip_request.specs.Queued.{entries}
use Rattle.sip_request.specs.transactions_model.Queue.{AreApart, AreDueInOrder, Entry, entries_of, has, queue_after}

-- Where these requests are open after an event, what stood before it and stands after it keeps its place, and what came to stand goes
-- behind what is due no later.
pub record KeepsOrder (old new : List Timer) (after : List OpenRequest) : Type 0 where
  pub queue : entries new ≡ queue_after (entries old) (entries_of after)

-- The timers that stand are those that open requests name, each in front of all that are due later, and no two are alike.
pub record IsQueueOf (pending : List Timer) (requests : List OpenRequest) : Type 0 where
  pub in_order : AreDueInOrder (entries pending)
  pub exact : (e : Entry) → has e (entries pending) ≡ has e (entries_of requests)
  pub apart : AreApart requests
