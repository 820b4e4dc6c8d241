use Rattle.sip_model.proofs.RunsUnder.{one_period}
use Rattle.sip_model.proofs.periods.under_one_is_a_run.Goals as goal

pub returns : goal.returns
returns c = one_period
