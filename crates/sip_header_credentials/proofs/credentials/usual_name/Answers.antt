use Rattle.std.proofs.Common.{◌≡◌, ◌∷◌, sym, ◌∙◌, rules}
use Rattle.sip_header_credentials.proofs.UsualItems.{name_first}
use Rattle.sip_header_credentials.proofs.credentials.usual_name.Goals as goal

pub returns : goal.returns
returns c =
    let mark : c.split_token.result.1.now ≡ 61 ∷ c.in-Some-eq61-default.right.now = search rules in
    name_first c.args.text.now c.without_front_blanks.result.now c.split_token.result.0.now c.split_token.result.1.now c.in-Some-eq61-default.right.now
    c.without_front_blanks.ensures c.split_token.ensures.token c.split_token.ensures.rest
    (sym c.is_empty.ensures ∙ c.if-is_empty.false) mark
