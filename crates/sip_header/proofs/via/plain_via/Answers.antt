use Rattle.std.proofs.Common.{sym}
use Rattle.std.specs.Prelude.{option_map}
use Rattle.sip_header.proofs.PlainVias.{via_is}
use Rattle.sip_header.proofs.via.plain_via.Goals as goal

pub returns : goal.returns
returns c =
    via_is c.args.value.now c.in_ok-text.text.now c.in_ok-sender.rest.now c.in_ok-sender.sender (option_map (λ x. x.now) c.in_ok-behind.behind)
    c.in_ok-parameters.parameters c.in_ok-text.ensures c.in_ok-sender.ensures c.in_ok-behind.ensures
    (sym c.in_ok-parameters.ensures)
