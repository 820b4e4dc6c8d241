use Rattle.sip_model.proofs.RunsUnder.{goes_on_under}
use Rattle.sip_model.proofs.periods.every_list_of_periods_has_a_run.Goals as goal

pub returns : goal.returns
returns c = λ server first history state periods until chain. goes_on_under server first history state periods until chain
