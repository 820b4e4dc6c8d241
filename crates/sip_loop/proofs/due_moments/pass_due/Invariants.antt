use Rattle.std.proofs.Common.{◌≡◌, [], Some}
use Rattle.sip_model.specs.Ends.{steps_left}
use Rattle.sip_run.specs.Due.{standing_of}
use Rattle.sip_loop.specs.Courses.{Course, Others, told_with, waiting_at}
use Rattle.sip_loop.specs.Serving.{kept}
use Rattle.sip_loop.proofs.due_moments.pass_due.Given as goal

abbrev pub decreases-loop-due : goal.decreases-loop-due
decreases-loop-due g l = steps_left l.at l.engine.state

abbrev pub invariant-loop-due : goal.invariant-loop-due
invariant-loop-due g l =
    (l.engine.server ≡ l.initial.engine.server)
    × (g.L.Link.receives l.link ≡ g.L.Link.receives l.initial.link)
    × (g.L.Link.failures l.link ≡ g.L.Link.failures l.initial.link)
    × (g.L.Link.heard l.link ≡ g.L.Link.heard l.initial.link)
    × ((others : Others) → Course l.initial.engine.server (standing_of l.initial.engine) (standing_of l.engine)
    (waiting_at (Some l.at) [] l.initial.engine.state.moment) (waiting_at (Some l.at) [] l.engine.state.moment)
    (told_with others (g.L.Link.given l.initial.link) (kept (g.J.Journal.written l.initial.journal) (g.J.Journal.faulted l.initial.journal)))
    (told_with others (g.L.Link.given l.link) (kept (g.J.Journal.written l.journal) (g.J.Journal.faulted l.journal))) [] 0 0)
    × (g.L.Link.waits l.link ≡ g.L.Link.waits l.initial.link)
