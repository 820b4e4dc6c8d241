use Rattle.sip_dialog.proofs.Seen.{early_seen, confirmed_seen}
use Rattle.sip_dialog.proofs.laws.seen_until_confirmed.Goals as goal

pub returns-clause-early : goal.returns-clause-early
returns-clause-early c = early_seen

pub returns-clause-confirmed : goal.returns-clause-confirmed
returns-clause-confirmed c = confirmed_seen
