use Rattle.std.proofs.Common.{refl, sym, ◌∙◌}
use Rattle.sip_location.proofs.Alive.{none_front, same_front}
use Rattle.sip_location.proofs.binding_table.behind_same.Goals as goal

pub returns-then-not-is_live_row : goal.returns-then-not-is_live_row
returns-then-not-is_live_row c = none_front c.args.now c.args.row.now c.args.rest.now (sym c.is_live_row.ensures ∙ c.if-not-is_live_row.true)

pub returns : goal.returns
returns c =
    same_front c.args.now c.args.row.now c.in_ok-first.first.now c.args.rest.now c.in_ok-first.others.now (sym c.is_live_row.ensures ∙ c.if-not-is_live_row.false)
    (c.if-not-is_same.ensures refl) c.in_ok-first.ensures
