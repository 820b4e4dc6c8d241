use Rattle.model_laws.proofs.Told.{known_told}
use Rattle.model_laws.proofs.origins.known_dialogs_were_told.Goals as goal

pub returns : goal.returns
returns c = known_told c.steps_have_parts.ensures c.dialogs_are_taught.ensures
