use Rattle.std.proofs.Common.{◌∙◌, ap, not, sym}
use Rattle.sip_config.proofs.RowPlaces.{place_found, place_last}
use Rattle.sip_config.proofs.host_ports.add_to.Goals as goal

pub returns-then-contains_key-clause-new : goal.returns-then-contains_key-clause-new
returns-then-contains_key-clause-new c =
    ap not (sym c.if-contains_key.true ∙ c.contains_key.ensures
    ∙ place_found c.args.places.now c.args.host.now c.args.port c.in_ok-copy.copy c.requires (c.in_ok-copy.ensures.items ∙ c.as_slice.ensures ∙ c.in_ok-lower.ensures))

pub returns-clause-placed : goal.returns-clause-placed
returns-clause-placed c =
    (place_last c.args.places.now c.insert.new.self c.args.host.now c.args.port c.in_ok-copy.copy c.len-last.result c.in_ok-insert.field-0 c.requires
    c.len-last.ensures.len
    (c.in_ok-copy.ensures.items ∙ c.as_slice.ensures ∙ c.in_ok-lower.ensures) (sym c.contains_key.ensures ∙ c.if-contains_key.false) c.in_ok-insert.ensures.old
    c.in_ok-insert.ensures.entries).1

pub returns-clause-new : goal.returns-clause-new
returns-clause-new c =
    ap not (sym c.if-contains_key.false ∙ c.contains_key.ensures
    ∙ place_found c.args.places.now c.args.host.now c.args.port c.in_ok-copy.copy c.requires (c.in_ok-copy.ensures.items ∙ c.as_slice.ensures ∙ c.in_ok-lower.ensures))

pub returns-clause-places : goal.returns-clause-places
returns-clause-places c =
    (place_last c.args.places.now c.insert.new.self c.args.host.now c.args.port c.in_ok-copy.copy c.len-last.result c.in_ok-insert.field-0 c.requires
    c.len-last.ensures.len
    (c.in_ok-copy.ensures.items ∙ c.as_slice.ensures ∙ c.in_ok-lower.ensures) (sym c.contains_key.ensures ∙ c.if-contains_key.false) c.in_ok-insert.ensures.old
    c.in_ok-insert.ensures.entries).0
