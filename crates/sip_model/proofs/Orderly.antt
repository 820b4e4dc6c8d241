-- Orderly histories, one behind the other, and what follows of one.
use Rattle.std.proofs.Common.{◌≡◌, List, ◌++◌, subst}
use Rattle.model_steps.specs.state.declared.server.Server.{Server}
use Rattle.sip_model.specs.Run.{Link, under}
use Rattle.model_transactions.specs.Queue.{Entry}
use Rattle.sip_model.specs.TimerOrder.{Standing, queue_from}
use Rattle.sip_model.proofs.Along.{queued_joined}
use Rattle.sip_model.specs.Ties.{AreOrderly, IsOrderly}

-- a step of such a history
abbrev pub Orderly : Server → List Entry → Link → Type 0
Orderly server standing link = IsOrderly (under server link.config) standing link.before link.act link.out link.after

pub orderly_joined : (server : Server) (old mid : Standing) (earlier later : List Link) → mid.queue ≡ queue_from old.queue earlier → AreOrderly server old.queue earlier
    → AreOrderly server mid.queue later
    → AreOrderly server old.queue (later ++ earlier)
orderly_joined server old mid earlier later is h k = queued_joined (Orderly server) old.queue earlier later h (subst (λ (q : List Entry). AreOrderly server q later) is k)
