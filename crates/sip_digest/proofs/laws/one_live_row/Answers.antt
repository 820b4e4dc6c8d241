use Rattle.sip_digest.proofs.LiveRows.{one_later, one_issued, one_used, newest_counts}
use Rattle.sip_digest.proofs.laws.one_live_row.Goals as goal

pub returns-clause-later : goal.returns-clause-later
returns-clause-later c = one_later

pub returns-clause-issued : goal.returns-clause-issued
returns-clause-issued c = one_issued

pub returns-clause-used : goal.returns-clause-used
returns-clause-used c = one_used

pub returns-clause-newest : goal.returns-clause-newest
returns-clause-newest c = newest_counts
