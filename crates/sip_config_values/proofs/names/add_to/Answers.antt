use Rattle.std.proofs.Common.{◌∙◌, sym}
use Rattle.sip_config_values.proofs.InOrder.{name_last}
use Rattle.sip_config_values.proofs.names.add_to.Goals as goal

pub returns-clause-placed : goal.returns-clause-placed
returns-clause-placed c =
    (name_last c.args.places.now c.insert.new.self c.in_ok-copy.copy c.args.name.now c.len-last.result c.in_ok-insert.field-0 c.requires c.len-last.ensures.len
    c.in_ok-copy.ensures.items
    (sym c.is_among.ensures ∙ c.if-is_among.false) c.in_ok-insert.ensures.old c.in_ok-insert.ensures.entries).1

pub returns-clause-names : goal.returns-clause-names
returns-clause-names c =
    (name_last c.args.places.now c.insert.new.self c.in_ok-copy.copy c.args.name.now c.len-last.result c.in_ok-insert.field-0 c.requires c.len-last.ensures.len
    c.in_ok-copy.ensures.items
    (sym c.is_among.ensures ∙ c.if-is_among.false) c.in_ok-insert.ensures.old c.in_ok-insert.ensures.entries).0
