use Rattle.model_steps.specs.state.State.{first_state}
use Rattle.sip_model.proofs.bounds.runs_under_are_bounded.Goals as goal

pub returns : goal.returns
returns c = λ server first periods until steps history last run.
    c.every_history_is_bounded.ensures server first history last (c.runs_under_are_one.ensures.one server (first_state first) periods until steps history last run).chain
