use Rattle.model_laws.proofs.Ended.{ended_anew}
use Rattle.model_laws.proofs.origins.ended_dialogs_are_told_anew.Goals as goal

pub returns : goal.returns
returns c = ended_anew c.steps_have_parts.ensures c.dialogs_are_taught.ensures
