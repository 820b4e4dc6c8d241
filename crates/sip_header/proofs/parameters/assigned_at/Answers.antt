use Rattle.std.proofs.Common.{◌≡◌, ◌∷◌, sym, ◌∙◌, rules}
use Rattle.std.specs.Prelude.{option_map}
use Rattle.sip_header.proofs.Plain.{assigned_begins}
use Rattle.sip_header.proofs.parameters.assigned_at.Goals as goal

pub returns : goal.returns
returns c =
    let mark : c.split_token.result.1.now ≡ 61 ∷ c.in-Some-eq61-default.given.now = search rules in
    assigned_begins c.args.text.now c.split_token.result.0.now c.split_token.result.1.now c.in-Some-eq61-default.given.now c.in_ok-value.value.now
    c.in_ok-value.last.now (option_map (λ y. y.now) c.in_ok-behind.behind)
    c.split_token.ensures.token c.split_token.ensures.rest (sym c.is_empty.ensures ∙ c.if-is_empty.false) mark c.in_ok-value.ensures c.in_ok-behind.ensures
