use Rattle.std.proofs.Common.{[], refl}
use Rattle.model_steps.specs.state.State.{first_state}
use Rattle.sip_model.proofs.Passing.{goes_on}
use Rattle.sip_model.proofs.runs.every_list_has_a_run.Goals as goal

pub returns-clause-whole : goal.returns-clause-whole
returns-clause-whole c = λ server first events until. goes_on server first [] (first_state first) refl events until

pub returns-clause-further : goal.returns-clause-further
returns-clause-further c = λ server first history state events until chain. goes_on server first history state chain events until
