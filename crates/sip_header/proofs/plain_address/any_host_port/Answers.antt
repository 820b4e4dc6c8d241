use Rattle.std.proofs.Common.{sym, ◌∙◌}
use Rattle.sip_header.proofs.PlainAddresses.{place_there}
use Rattle.sip_header.proofs.plain_address.any_host_port.Goals as goal

pub returns : goal.returns
returns c =
    place_there c.args.value.now c.in_ok-display.display.now c.in_ok-display.rest.now c.in_ok-uri.uri.now c.in_ok-uri.behind.now c.without_blanks.result.now
    c.plain_host_port.result c.in_ok-display.ensures (sym c.is_empty.ensures ∙ c.if-not-is_empty.false)
    c.in_ok-uri.ensures (sym c.is_empty-2.ensures ∙ c.if-not-is_empty-2.false) c.without_blanks.ensures c.plain_host_port.ensures
