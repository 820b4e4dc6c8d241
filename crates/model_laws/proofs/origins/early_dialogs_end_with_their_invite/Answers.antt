use Rattle.model_laws.proofs.Early.{early_open}
use Rattle.model_laws.proofs.origins.early_dialogs_end_with_their_invite.Goals as goal

pub returns : goal.returns
returns c = early_open c.numbers_differ.ensures c.requests_can_end.ensures.has_deadline c.dialogs_are_taught.ensures
