use Rattle.std.specs.Prelude.{option_map}
use Rattle.sip_uri.proofs.Rests.{has_place}
use Rattle.sip_uri.proofs.parts.plain_rest.Goals as goal

pub returns : goal.returns
returns c =
    has_place c.args.text.now c.in_ok-host.host.now c.in_ok-host.rest.now (option_map (λ port. port.0.now) c.in_ok-host.port) (option_map (λ x. x.now) c.digits_of.result)
    (option_map (λ x. x.now) c.in_ok-parameters.parameters)
    (option_map (λ x. x.now) c.in_ok-parameters.headers) c.in_ok-host.ensures.place c.in_ok-parameters.ensures c.digits_of.ensures
