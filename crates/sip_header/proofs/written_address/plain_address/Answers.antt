use Rattle.std.proofs.Common.{sym}
use Rattle.sip_header.proofs.written_address.plain_address.Goals as goal

pub returns : goal.returns
returns c = c.in_ok-uri.ensures c.in_ok-parameters.parameters (sym c.in_ok-parameters.ensures)
