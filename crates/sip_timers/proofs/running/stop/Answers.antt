use Rattle.std.proofs.Common.{subst, sym, List, [], ◌∷◌}
use Rattle.sip_timers.specs.declared.timer.Timer.{Timer}
use Rattle.sip_timers.specs.Moves.{Moves}
use Rattle.sip_timers.proofs.Moving.{Moves-stopped, stands}
use Rattle.sip_timers.proofs.running.stop.Goals as goal

pub returns-clause-moves : goal.returns-clause-moves
returns-clause-moves g c =
    let old : List Timer = g.T.Timers.pending c.args.timers.now in
    let t : Timer = c.args.timer in
    subst (λ (us : List Timer). Moves old (t ∷ []) us []) (sym c.cancel.ensures.gone)
    (Moves-stopped old t (λ p. c.timer_taken_out.ensures p t old (c.requires.keys_differ t.key) (stands old t c.requires)))
