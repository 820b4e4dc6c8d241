use Rattle.std.proofs.Common.{◌≡◌}
use Rattle.sip_run.specs.Due.{standing_of}
use Rattle.sip_loop.specs.Counts.{counted_times}
use Rattle.sip_loop.specs.Courses.{Goes}
use Rattle.sip_loop.specs.Serving.{kept, told_by}
use Rattle.sip_loop.proofs.serving.serve.Given as goal

abbrev pub invariant-loop : goal.invariant-loop
invariant-loop g l =
    (l.engine.server ≡ l.initial.engine.server)
    × (g.L.Link.receives l.link ≡ counted_times l.counter (g.L.Link.receives l.initial.link))
    × (g.L.Link.failures l.link ≡ g.L.Link.failures l.initial.link)
    × Goes l.initial.engine.server (standing_of l.initial.engine) (standing_of l.engine)
    (told_by (g.L.Link.heard l.initial.link) (g.L.Link.given l.initial.link) (g.C.Clock.readings l.initial.clock)
    (kept (g.J.Journal.written l.initial.journal) (g.J.Journal.faulted l.initial.journal))
    (kept (g.A.AuditLog.printed l.initial.audit) (g.A.AuditLog.faulted l.initial.audit)) (g.W.Rng.stream l.initial.words))
    (told_by (g.L.Link.heard l.link) (g.L.Link.given l.link) (g.C.Clock.readings l.clock) (kept (g.J.Journal.written l.journal) (g.J.Journal.faulted l.journal))
    (kept (g.A.AuditLog.printed l.audit) (g.A.AuditLog.faulted l.audit)) (g.W.Rng.stream l.words)) l.counter
    × (g.L.Link.waits l.link ≡ g.L.Link.waits l.initial.link)
