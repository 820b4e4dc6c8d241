use Rattle.std.proofs.Common.{◌≡◌, ◌∷◌, rules}
use Rattle.sip_header.proofs.PlainAddresses.{usual_is}
use Rattle.sip_header.proofs.plain_address.usual_host_port.Goals as goal

pub returns : goal.returns
returns c =
    let opened : c.args.value.now ≡ 60 ∷ c.in-Some-eq60-default.text.now = search rules in
    usual_is c.args.value.now c.in-Some-eq60-default.text.now c.in_ok-host.host.now c.in_ok-host.end.now c.in_ok-host.port opened c.in_ok-host.ensures
    (c.ends_place.ensures c.if-not-ends_place.false)
