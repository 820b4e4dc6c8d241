use Rattle.sip_engine_request.proofs.Moments.{before, before_again, from_then, never, never_again}
use Rattle.sip_engine_request.proofs.open_laws.next_moment_is_first.Goals as goal

pub returns-clause-before : goal.returns-clause-before
returns-clause-before c = before

pub returns-clause-before_again : goal.returns-clause-before_again
returns-clause-before_again c = before_again

pub returns-clause-from_then : goal.returns-clause-from_then
returns-clause-from_then c = from_then

pub returns-clause-never : goal.returns-clause-never
returns-clause-never c = never

pub returns-clause-never_again : goal.returns-clause-never_again
returns-clause-never_again c = never_again
