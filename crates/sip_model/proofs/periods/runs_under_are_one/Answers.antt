use Rattle.model_steps.specs.state.State.{first_state}
use Rattle.sip_model.proofs.Lawful.{access_of_chain}
use Rattle.sip_model.proofs.RunsUnder.{one_history}
use Rattle.sip_model.proofs.periods.runs_under_are_one.Goals as goal

pub returns-clause-one : goal.returns-clause-one
returns-clause-one c = one_history

pub returns-clause-access : goal.returns-clause-access
returns-clause-access c = λ server first periods until steps history last h. access_of_chain server first history last
    (one_history server (first_state first) periods until steps history last h).chain
