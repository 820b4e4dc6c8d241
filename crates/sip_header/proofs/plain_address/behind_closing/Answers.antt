use Rattle.std.proofs.Common.{◌≡◌, ◌∷◌, rules}
use Rattle.sip_header.proofs.Placed.{closing_is}
use Rattle.sip_header.proofs.plain_address.behind_closing.Goals as goal

pub returns : goal.returns
returns c =
    let front : c.split_at.result.0.now ≡ c.args.text.now = search rules in
    let closing : c.split_at.result.1.now ≡ 62 ∷ c.in-Some-eq62-default.rest.now = search rules in
    closing_is c.args.end.now c.args.text.now c.split_at.result.0.now c.split_at.result.1.now c.in-Some-eq62-default.rest.now c.split_at.ensures.by_index.0 front closing
