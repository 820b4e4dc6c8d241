use Rattle.std.proofs.Common.{◌≡◌, ℕ, ◌∷◌, take, drop, sym, ap, ◌∙◌, rules}
use Rattle.std.specs.Prelude.{option_map}
use Rattle.sip_header_credentials.proofs.UsualItems.{quoted_first}
use Rattle.sip_header_credentials.proofs.credentials.usual_quoted.Goals as goal

pub returns : goal.returns
returns c =
    let inside = c.in-Some-eq34-default.inside.now in
    let whole : c.args.text.now ≡ 34 ∷ inside = search rules in
    let ended : c.split_at.result.1.now ≡ 34 ∷ c.in-Some-eq34-default-split_first.end.now = search rules in
    quoted_first c.args.text.now inside c.in-Some-eq34-default-split_first.end.now c.split_at.result.0.now (option_map (λ y. y.now) c.in_ok-rest.rest) whole
    (c.split_at.ensures.front ∙ ap (λ (n : ℕ). take n inside) c.plain_length.ensures.value)
    (sym (c.split_at.ensures.back ∙ ap (λ (n : ℕ). drop n inside) c.plain_length.ensures.value) ∙ ended)
    c.in_ok-rest.ensures
