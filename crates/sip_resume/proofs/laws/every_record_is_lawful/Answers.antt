use Rattle.std.proofs.Common.{None, ◌∷◌}
use Rattle.sip_model.specs.state.State.{first_state}
use Rattle.sip_resume.proofs.laws.every_record_is_lawful.Goals as goal

pub returns : goal.returns
returns c = λ server server_then first new events segments takes. (
    let periods = record { config = server.config; events = events } ∷ takes.periods in (
      c.runs_under_are_one.ensures.access server first periods None takes.runs.steps takes.runs.history new.state takes.runs.is_run,
      c.every_history_is_bounded.ensures server first takes.runs.history new.state
          (c.runs_under_are_one.ensures.one server (first_state first) periods None takes.runs.steps takes.runs.history new.state takes.runs.is_run).chain,
    )
    )
