use Rattle.sip_model.proofs.Joins.{joined_run}
use Rattle.sip_model.proofs.runs.runs_join.Goals as goal

pub returns : goal.returns
returns c = λ server first middle last events more until steps further history later before behind.
    joined_run server first middle last events more until steps further history later before behind
