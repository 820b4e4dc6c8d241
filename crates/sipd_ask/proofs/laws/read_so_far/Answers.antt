use Rattle.sipd_ask.proofs.ReadPasswords.{read_so_far}
use Rattle.sipd_ask.proofs.laws.read_so_far.Goals as goal

pub returns : goal.returns
returns c = λ name realm text digests. read_so_far name realm text digests
