use Rattle.std.proofs.Common.{sym, ◌∙◌}
use Rattle.sip_uri.proofs.PlainPlaces.{plain_from}
use Rattle.sip_uri.proofs.plain_forms.plain_host_port.Goals as goal

pub returns : goal.returns
returns c =
    plain_from c.args.text.now c.in_ok-behind_sip.field-0.now c.in_ok-rest.rest.now c.in_ok-host.host.now c.in_ok-host.behind.now c.in_ok-host.port
    c.in_ok-parameters.parameters c.in_ok-parameters.headers c.number_of.result c.in_ok-behind_sip.ensures
    c.in_ok-rest.ensures c.in_ok-host.ensures.place c.in_ok-host.ensures.number c.in_ok-parameters.ensures (sym c.is_some.ensures ∙ c.if-is_some.false)
    (c.is_loose_or_none.ensures c.if-not-is_loose_or_none.false) (sym c.number_of.ensures)
