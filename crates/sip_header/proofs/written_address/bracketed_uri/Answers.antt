use Rattle.std.proofs.Common.{◌≡◌, ◌∷◌, rules}
use Rattle.std.specs.Prelude.{option_map}
use Rattle.sip_header.proofs.WrittenAddresses.{address_in_brackets}
use Rattle.sip_header.proofs.written_address.bracketed_uri.Goals as goal

pub returns : goal.returns
returns c =
    let ended : c.in_ok-uri.closing.now ≡ 62 ∷ c.in-Some-eq62-default.rest.now = search rules in
    address_in_brackets c.args.value.now c.in_ok-text.text.now c.in_ok-uri.closing.now c.in-Some-eq62-default.rest.now _ (option_map (λ x. x.now) c.in_ok-behind.behind)
    c.in_ok-text.ensures c.in_ok-uri.ensures ended c.in_ok-behind.ensures
