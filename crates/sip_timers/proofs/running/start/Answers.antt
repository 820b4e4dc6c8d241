use Rattle.std.proofs.Common.{subst, sym, List, [], ◌∷◌}
use Rattle.sip_timers.specs.declared.timer.Timer.{Timer}
use Rattle.sip_timers.specs.Moves.{Moves}
use Rattle.sip_timers.proofs.Moving.{Moves-started}
use Rattle.sip_timers.proofs.running.start.Goals as goal

pub returns-clause-moves : goal.returns-clause-moves
returns-clause-moves g c =
    let old : List Timer = g.T.Timers.pending c.args.timers.now in
    let t : Timer = record { key = c.unwrap-key.result; due = c.args.due; name = c.args.name } in
    let added = rw c.unwrap-key.ensures at c.add.ensures.added in
    let fresh = rw c.unwrap-key.ensures at c.add.ensures.fresh in
    subst (λ (us : List Timer). Moves old [] us (t ∷ [])) (sym added) (Moves-started old t fresh (λ p. c.timer_stands.ensures p t old))
