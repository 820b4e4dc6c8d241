use Rattle.std.proofs.Common.{◌≡◌, ◌≤◌, ◌-◌, [], length}
use Rattle.sip_timers.specs.Moves.{Moves}
use Rattle.sip_timers.specs.Setting.{SetsInOrder}
use Rattle.sip_request.specs.Walk.{left_timers}
use Rattle.sip_request.proofs.branches.stop_left.Given as goal

-- the branches before a place are through
abbrev pub invariant-loop-at : goal.invariant-loop-at
invariant-loop-at g l = record {
  moved : Moves (g.T.Timers.pending l.fn.timers) (left_timers l.was l.keys l.fn.place) (g.T.Timers.pending l.timers) (left_timers l.was l.keys l.at);
  room : g.T.Timers.room l.fn.timers ≤ g.T.Timers.room l.timers;
  sets : SetsInOrder (g.T.Timers.pending l.fn.timers) [] (g.T.Timers.pending l.timers) [];
  still : g.T.Timers.reached l.timers ≡ g.T.Timers.reached l.fn.timers;
}

abbrev pub decreases-loop-at : goal.decreases-loop-at
decreases-loop-at g l = length l.keys - l.at
