use Rattle.std.proofs.Common.{[]}
use Rattle.sip_engine.specs.state.State.{first_state}
use Rattle.sip_run.specs.Runs.{server_of}
use Rattle.sip_run.proofs.Standings.{standing_is}
use Rattle.sip_run.proofs.Stopping.{by_laws, whole, stopped, unopened}
use Rattle.sip_run.specs.Due.{standing_of}
use Rattle.sip_run.proofs.running.run.Goals as goal

pub returns-in-Err : goal.returns-in-Err
returns-in-Err g c = unopened (by_laws c.every_run_has_access.ensures c.every_history_is_bounded.ensures) (server_of c.args.config c.args.boot.word) c.args.boot.first
    c.args.events.now c.new-steps.result c.new-steps.ensures

pub returns-in-Ok-take_events : goal.returns-in-Ok-take_events
returns-in-Ok-take_events g c =
    whole (by_laws c.every_run_has_access.ensures c.every_history_is_bounded.ensures) (server_of c.args.config c.args.boot.word) c.in-Ok.engine.server c.args.boot.first
    (standing_of c.in-Ok.engine) (standing_of c.take_events.new.engine) c.args.events.now c.new-steps.result c.take_events.new.steps
    c.in-Ok.ensures.server (standing_is c.in-Ok.engine (first_state c.args.boot.first) [] c.in-Ok.ensures.state c.in-Ok.ensures.timers) c.new-steps.ensures
    c.in-Ok-take_events.ensures.taken

pub returns : goal.returns
returns g c =
    stopped (by_laws c.every_run_has_access.ensures c.every_history_is_bounded.ensures) (server_of c.args.config c.args.boot.word) c.in-Ok.engine.server c.args.boot.first
    (standing_of c.in-Ok.engine) c.args.events.now c.new-steps.result c.take_events.new.steps c.in-Err-take_events.e
    c.in-Ok.ensures.server (standing_is c.in-Ok.engine (first_state c.args.boot.first) [] c.in-Ok.ensures.state c.in-Ok.ensures.timers) c.new-steps.ensures
    c.in-Err-take_events.ensures.stopped
