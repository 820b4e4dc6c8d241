use Rattle.std.proofs.Common.{◌≡◌, ◌∷◌, ap, sym, ◌∙◌, rules}
use Rattle.sip_uri.specs.Port.{port_value}
use Rattle.sip_uri.proofs.Places.{both_parts, host_at, name_at, port_at}
use Rattle.sip_uri.proofs.host.place_by.Goals as goal

pub returns-in_default-clause-place : goal.returns-in_default-clause-place
returns-in_default-clause-place c = host_at c.args.host.now c.args.rest.now c.requires (sym c.is_empty.ensures ∙ c.if-is_empty.false)

pub returns-in_default-clause-name : goal.returns-in_default-clause-name
returns-in_default-clause-name c = λ none. name_at c.args.host.now c.args.rest.now c.requires (sym c.is_empty.ensures ∙ c.if-is_empty.false)

pub returns-clause-place : goal.returns-clause-place
returns-clause-place c =
    let colon : c.args.rest.now ≡ 58 ∷ c.in-Some-eq58-default.behind.now = search rules in
    port_at c.args.host.now c.args.rest.now c.in-Some-eq58-default.behind.now c.split_at.result.0.now c.split_at.result.1.now c.in_ok-length.number c.requires
    (sym c.is_empty.ensures ∙ c.if-is_empty.false) colon
    (both_parts c.in_ok-length.length c.in-Some-eq58-default.behind.now c.split_at.result.0.now c.split_at.result.1.now c.split_at.ensures.front c.split_at.ensures.back)
    (ap port_value c.split_at.ensures.front ∙ c.in_ok-length.ensures.number)
