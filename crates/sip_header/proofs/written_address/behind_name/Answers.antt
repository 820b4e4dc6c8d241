use Rattle.std.proofs.Common.{◌≡◌, ◌∷◌, rules}
use Rattle.sip_header.proofs.WrittenAddresses.{opened_behind}
use Rattle.sip_header.proofs.written_address.behind_name.Goals as goal

pub returns : goal.returns
returns c =
    let begins : c.without_front_blanks.result.now ≡ 60 ∷ c.in-Some-eq60-default.text.now = search rules in
    opened_behind c.args.value.now c.in_ok-behind.field-0-0.now c.in_ok-behind.behind.now c.without_front_blanks.result.now c.in-Some-eq60-default.text.now
    c.in_ok-behind.ensures.whole c.in_ok-behind.ensures.quoted c.without_front_blanks.ensures begins
