use Rattle.std.proofs.Common.{rules, ◌≡◌, ◌∷◌, refl}
use Rattle.sip_location.proofs.Refreshes.{contact_cut}
use Rattle.sip_location.proofs.refreshing.behind_contact_of.Goals as goal

pub returns : goal.returns
returns c =
    let opens : c.args.value.now ≡ 60 ∷ c.in-Some-eq60-default.rest.now = search rules in
    let front : c.split_at.result.0.now ≡ c.args.text.now = search rules in
    let end : c.split_at.result.1.now ≡ 62 ∷ c.in-Some-eq62-default.behind.now = search rules in
    contact_cut c.args.value.now c.in-Some-eq60-default.rest.now c.split_at.result.0.now c.split_at.result.1.now c.args.text.now
    c.in-Some-eq62-default.behind.now c.in_ok-parameters.parameters opens c.split_at.ensures.by_index.0 front end c.requires
    (c.if-not-has_few_semicolons.ensures refl) c.in_ok-parameters.ensures
