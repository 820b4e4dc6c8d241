use Rattle.std.proofs.Common.{◌≡◌, ◌∷◌, sym, ◌∙◌, rules}
use Rattle.sip_uri.proofs.Users.{user_here}
use Rattle.sip_uri.proofs.user.plain_user.Goals as goal

pub returns : goal.returns
returns c =
    let next : c.split_at.result.1.now ≡ 64 ∷ c.in-Some-eq64-default.rest.now = search rules in
    user_here c.plain_length.result c.args.text.now c.split_at.result.0.now c.split_at.result.1.now c.in-Some-eq64-default.rest.now c.plain_length.ensures.value
    c.split_at.ensures.front c.split_at.ensures.back (sym c.is_empty.ensures ∙ c.if-is_empty.false) next
