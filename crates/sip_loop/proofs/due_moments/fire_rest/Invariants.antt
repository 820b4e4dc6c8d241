use Rattle.std.proofs.Common.{◌≡◌, List}
use Rattle.sip_event.specs.declared.packet.Packet.{Packet}
use Rattle.sip_model.specs.Ends.{steps_left}
use Rattle.sip_model.specs.TimerOrder.{Standing}
use Rattle.sip_run.specs.Due.{standing_of}
use Rattle.sip_loop.specs.Courses.{HappensAll, HappensTo, IsNoFurther}
use Rattle.sip_loop.proofs.due_moments.fire_rest.Given as goal

abbrev pub decreases-loop-out : goal.decreases-loop-out
decreases-loop-out g l = steps_left l.at l.engine.state

abbrev pub invariant-loop-out : goal.invariant-loop-out
invariant-loop-out g l =
    (l.engine.server ≡ l.initial.engine.server)
    × (l.engine.state.moment ≡ l.at)
    × IsNoFurther l.initial.engine.state l.engine.state
    × ((start : Standing) (first : List Packet) → HappensAll l.initial.engine.server start (standing_of l.initial.engine) l.at first l.initial.waiting
    → HappensAll l.initial.engine.server start (standing_of l.engine) l.at first l.waiting)
    × ((start : Standing) → HappensTo l.initial.engine.server start (standing_of l.initial.engine) l.at
    → HappensTo l.initial.engine.server start (standing_of l.engine) l.at)
