use Rattle.std.proofs.Common.{sym, ◌∙◌}
use Rattle.sip_timers_wheel.specs.Threads.{list_of}
use Rattle.sip_timers_wheel.proofs.Holding.{known_row, known_answer}
use Rattle.sip_timers_wheel.proofs.least.least_of.Goals as goal

pub timer_at-requires : goal.timer_at-requires
timer_at-requires c = known_row c.args.rows.now c.args.head.now (list_of c.args.rows.now c.args.head.now) c.in-Some.number c.requires
    (sym c.known_least.ensures ∙ c.in-Some.is)

pub returns-in-Some : goal.returns-in-Some
returns-in-Some c = known_answer c.args.rows.now c.args.head.now (list_of c.args.rows.now c.args.head.now) c.in-Some.number c.timer_at.result c.requires
    (sym c.known_least.ensures ∙ c.in-Some.is) c.timer_at.ensures
