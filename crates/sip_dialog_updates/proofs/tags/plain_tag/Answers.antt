use Rattle.std.proofs.Common.{◌≡◌, ◌∷◌, rules}
use Rattle.sip_dialog_updates.proofs.PlainTags.{tag_at}
use Rattle.sip_dialog_updates.proofs.tags.plain_tag.Goals as goal

pub returns : goal.returns
returns c =
    let opened : c.args.value.now ≡ 60 ∷ c.in-Some-eq60-default.text.now = search rules in
    let ended : c.in_ok-closing.closing.now ≡ 62 ∷ c.in-Some-eq62-default.rest.now = search rules in
    tag_at c.args.value.now c.in-Some-eq60-default.text.now _ c.in_ok-closing.closing.now c.in-Some-eq62-default.rest.now c.in_ok-tag.tag.now _
    opened c.in_ok-closing.ensures ended c.in_ok-tag.ensures
