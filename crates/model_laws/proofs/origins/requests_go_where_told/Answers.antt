use Rattle.model_laws.proofs.Going.{within_goes}
use Rattle.model_laws.proofs.origins.requests_go_where_told.Goals as goal

pub returns : goal.returns
returns c = within_goes c.known_dialogs_were_told.ensures
