use Rattle.model_laws.proofs.Withheld.{silence_refused, copy_refused, passed_refused}
use Rattle.model_laws.proofs.owed_packets.time_is_kept.Goals as goal

pub returns-clause-silent : goal.returns-clause-silent
returns-clause-silent c = silence_refused

pub returns-clause-copied : goal.returns-clause-copied
returns-clause-copied c = copy_refused

pub returns-clause-passed : goal.returns-clause-passed
returns-clause-passed c = passed_refused
