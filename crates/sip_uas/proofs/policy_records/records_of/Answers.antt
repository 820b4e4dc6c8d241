use Rattle.std.proofs.Common.{sym}
use Rattle.sip_uas.proofs.policy_records.records_of.Goals as goal

pub returns : goal.returns
returns c = λ server is. c.in_ok-records.ensures server c.args.request.now.message (sym c.start.ensures) is
