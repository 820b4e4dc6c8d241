use Rattle.std.proofs.Common.{◌≡◌, ◌+◌, ◌-◌, ◌≤◌, ℕ, [], Option, drop, length}
use Rattle.sip_model.specs.Ends.{sends_left}
use Rattle.sip_run.specs.Due.{NothingDueBy, standing_of}
use Rattle.sip_loop.specs.Courses.{Course, IsNoFurther, Others, told_with, waiting_at}
use Rattle.sip_loop.specs.Serving.{kept}
use Rattle.sip_loop.proofs.handing.hand_out.Given as goal

abbrev pub decreases-loop-place : goal.decreases-loop-place
decreases-loop-place g l = (length l.packets - l.place) + sends_left l.engine.state

abbrev pub invariant-loop-place : goal.invariant-loop-place
invariant-loop-place g l =
    (l.engine.server ≡ l.initial.engine.server)
    × (g.L.Link.receives l.link ≡ g.L.Link.receives l.initial.link)
    × (g.L.Link.failures l.link ≡ g.L.Link.failures l.initial.link)
    × (g.L.Link.heard l.link ≡ g.L.Link.heard l.initial.link)
    × (l.place ≤ length l.packets)
    × IsNoFurther l.initial.engine.state l.engine.state
    × NothingDueBy l.engine.state.moment l.engine.state
    × ((others : Others) (turn : Option ℕ) → Course l.initial.engine.server (standing_of l.initial.engine) (standing_of l.engine)
    (waiting_at turn l.initial.packets l.initial.engine.state.moment) (waiting_at turn (drop l.place l.packets) l.engine.state.moment)
    (told_with others (g.L.Link.given l.initial.link) (kept (g.J.Journal.written l.initial.journal) (g.J.Journal.faulted l.initial.journal)))
    (told_with others (g.L.Link.given l.link) (kept (g.J.Journal.written l.journal) (g.J.Journal.faulted l.journal))) [] 0 0)
    × (g.L.Link.waits l.link ≡ g.L.Link.waits l.initial.link)
