use Rattle.std.proofs.Common.{◌≡◌, ◌≤◌, ◌+◌, ◌*◌, ◌++◌, drop, take}
use Rattle.sip_timers.specs.Moves.{Moves}
use Rattle.model_transactions.specs.Ties.{branches_timers}
use Rattle.model_transactions.specs.Matching.{AreMatched}
use Rattle.sip_request.specs.Order.{branches_in_order, keyed}
use Rattle.sip_request.specs.Walk.{left_timers}
use Rattle.sip_request.proofs.Joining.{AreJoined}
use Rattle.sip_request.proofs.branches.sync_branches.Given as goal

-- the branches so far are through, and those before from a place on are still to be looked at
abbrev pub invariant-loop-i : goal.invariant-loop-i
invariant-loop-i g l = record {
  moved : Moves (g.T.Timers.pending l.fn.timers) (branches_timers l.was l.was.branches l.was_keys) (g.T.Timers.pending l.timers)
      (branches_timers l.next (take l.i l.branches) (take l.i l.keys) ++ left_timers l.was l.was_keys l.place);
  room : g.T.Timers.room l.fn.timers ≤ g.T.Timers.room l.timers + 3 * l.i;
  joined : AreMatched (keyed l.was.branches l.was_keys) l.next.branches → AreJoined l.was l.was_keys l.place (g.T.Timers.pending l.fn.timers)
      (g.T.Timers.pending l.timers) (branches_in_order l.next (take l.i l.branches) (take l.i l.keys)) (drop l.i l.branches);
  still : g.T.Timers.reached l.timers ≡ g.T.Timers.reached l.fn.timers;
}
