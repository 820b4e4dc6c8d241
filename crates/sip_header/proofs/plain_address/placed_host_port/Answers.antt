use Rattle.std.proofs.Common.{◌≡◌, ◌∷◌, rules}
use Rattle.std.specs.Prelude.{option_map}
use Rattle.sip_header.proofs.Placed.{placed_is}
use Rattle.sip_header.proofs.plain_address.placed_host_port.Goals as goal

pub returns : goal.returns
returns c =
    let opened : c.args.value.now ≡ 60 ∷ c.in-Some-eq60-default.text.now = search rules in
    placed_is c.args.value.now c.in-Some-eq60-default.text.now c.in_ok-host.end.now c.in_ok-rest.rest.now c.in_ok-host.host.now c.in_ok-host.port
    (option_map (λ x. x.now) c.in_ok-behind.behind) c.in_ok-_parameters._parameters opened c.in_ok-host.ensures c.in_ok-rest.ensures c.in_ok-behind.ensures
    c.in_ok-_parameters.ensures
