use Rattle.std.proofs.Common.{◌∙◌, List, ap, sym}
use Rattle.std.specs.List.{list_any}
use Rattle.sip_uri.specs.declared.addr.Addr.{Addr}
use Rattle.sip_dialog.specs.Addresses.{is_same_addr}
use Rattle.sipd_ladder.proofs.Places.{added_place, place_known}
use Rattle.sipd_ladder.proofs.table.add_place.Goals as goal

pub returns-then-is_known : goal.returns-then-is_known
returns-then-is_known c =
    place_known c.args.places.now c.args.addr
    (ap (λ (ps : List Addr). list_any (λ known. is_same_addr known c.args.addr) ps) (sym c.as_slice.ensures) ∙ sym c.is_known.ensures ∙ c.if-is_known.true)

pub returns : goal.returns
returns c =
    added_place c.push.result c.args.places.now c.push.new.self c.args.addr
    (ap (λ (ps : List Addr). list_any (λ known. is_same_addr known c.args.addr) ps) (sym c.as_slice.ensures) ∙ sym c.is_known.ensures ∙ c.if-is_known.false)
    c.push.ensures.ok
