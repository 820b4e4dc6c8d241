use Rattle.std.proofs.Common.{refl}
use Rattle.std.specs.Prelude.{option_map}
use Rattle.sip_header.proofs.WrittenAddresses.{address_without_brackets}
use Rattle.sip_header.proofs.written_address.bare_uri.Goals as goal

pub returns : goal.returns
returns c =
    address_without_brackets c.args.value.now c.in_ok-uri.rest.now _ (option_map (λ x. x.now) c.in_ok-behind.behind) c.in_ok-uri.ensures
    (c.if-not-has_no_bracket.ensures refl) c.in_ok-behind.ensures
