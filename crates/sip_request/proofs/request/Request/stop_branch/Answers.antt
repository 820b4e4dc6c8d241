use Rattle.std.proofs.Common.{◌+◌, List, subst, sym}
use Rattle.sip_timers.specs.Moves.{IsHeld, Moves}
use Rattle.model_transactions.specs.declared.timer_keys.TimerKeys.{TimerKeys}
use Rattle.sip_request.specs.Walk.{left_timers}
use Rattle.sip_request.proofs.Ending.{branch_stopped, held_at}
use Rattle.sip_request.proofs.request.Request.stop_branch.Goals as goal

pub stop_at-requires-clause-held : goal.stop_at-requires-clause-held
stop_at-requires-clause-held g c =
    subst (λ (ks : List TimerKeys). IsHeld (g.T.Timers.pending c.args.timers.now) (left_timers c.args.self.now.open_request ks c.args.place)) (sym c.as_slice.ensures)
    (held_at (g.T.Timers.pending c.args.timers.now) c.args.self.now c.args.place c.requires.held)

pub returns-clause-moves : goal.returns-clause-moves
returns-clause-moves g c =
    branch_stopped (g.T.Timers.pending c.args.timers.now) (g.T.Timers.pending c.stop_at.new.timers) c.args.self.now c.args.place
    (subst (λ (ks : List TimerKeys). Moves (g.T.Timers.pending c.args.timers.now) (left_timers c.args.self.now.open_request ks c.args.place)
    (g.T.Timers.pending c.stop_at.new.timers) (left_timers c.args.self.now.open_request ks (c.args.place + 1))) c.as_slice.ensures
    c.stop_at.ensures.moves)
