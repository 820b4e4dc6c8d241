use Rattle.std.proofs.Common.{[], List, refl, subst, sym}
use Rattle.sip_timers.specs.declared.timer.Timer.{Timer}
use Rattle.sip_timers.specs.Moves.{IsHeld, Moves}
use Rattle.sip_request.proofs.Ending.{ended_none, Moves-nothing}
use Rattle.sip_request.proofs.branches.stop_branch.Goals as goal

pub returns-then-has_ended-clause-moves : goal.returns-then-has_ended-clause-moves
returns-then-has_ended-clause-moves g c = Moves-nothing _ _ _ (ended_none c.args.was.now c.args.branch.now c.args.keys (c.if-has_ended.ensures refl)) refl

pub stop_part-requires : goal.stop_part-requires
stop_part-requires g c = subst (λ (ts : List Timer). IsHeld (g.T.Timers.pending c.args.timers.now) ts) (sym (c.branch_part.ensures.names c.args.keys)) c.requires.held

pub returns-clause-moves : goal.returns-clause-moves
returns-clause-moves g c =
    subst (λ (ts : List Timer). Moves (g.T.Timers.pending c.args.timers.now) ts (g.T.Timers.pending c.stop_part.new.timers) []) (c.branch_part.ensures.names c.args.keys)
    c.stop_part.ensures.moves
