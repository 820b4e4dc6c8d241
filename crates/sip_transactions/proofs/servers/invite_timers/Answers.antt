use Rattle.sip_transactions.proofs.ServerInviteTimers.{keeps, own}
use Rattle.sip_transactions.proofs.servers.invite_timers.Goals as goal

pub returns-clause-keeps : goal.returns-clause-keeps
returns-clause-keeps c = keeps

pub returns-clause-own : goal.returns-clause-own
returns-clause-own c = own c.args.state c.args.letter
