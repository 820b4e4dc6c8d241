use Rattle.std.proofs.Common.{◌-◌, ◌<◌, List, ap, refl, arith, length, count_by, ◌∙◌}
use Rattle.sip_dialog.specs.Rows.{Entries, dialogs_in}
use Rattle.sip_dialog.proofs.Alone.{Row}
use Rattle.sip_dialog.proofs.Ending.{known_swapped}
use Rattle.sip_dialog.proofs.Named.{named_swapped}
use Rattle.sip_dialog.proofs.Places.{front_settled}
use Rattle.sip_dialog.proofs.Tables.{swapped_same, read_at}
use Rattle.sip_dialog.proofs.rows.DialogRows.settle.Goals as goal

pub invariant_of-self : goal.invariant_of-self
invariant_of-self c =
    let inside : c.args.at < length c.self.inside.rows.items = omega (arith, c.if-at-self.true, c.self.invariant.1.within) in
    let last_inside : c.self.inside.early - 1 < length c.self.inside.rows.items = omega (arith, c.if-at-self.true, c.self.invariant.1.within) in
    rw (c.swap.ensures.items, c.swap-then-index.ensures.list) (
      named_swapped c.self.inside.keyed c.self.inside.digests.list c.self.inside.rows.items c.self.invariant.0 c.args.at (c.self.inside.early - 1) inside last_inside,
      front_settled c.self.inside.early c.self.inside.rows.items c.self.invariant.1 c.args.at (c.self.inside.early - 1) c.index.result.now c.if-at-self.true
          (omega (arith, c.if-at-self.true))
          (read_at c.self.inside.rows.items _ c.args.at c.index.result.now refl inside c.index.ensures) c.if-index.true,
      known_swapped c.self.inside.until c.self.inside.rows.items c.self.invariant.2 c.args.at (c.self.inside.early - 1) inside last_inside,
    )

pub returns-then-index-clause-same : goal.returns-then-index-clause-same
returns-then-index-clause-same c = λ p.
    let inside : c.args.at < length c.self.inside.rows.items = omega (arith, c.if-at-self.true, c.self.invariant.1.within) in
    let last_inside : c.self.inside.early - 1 < length c.self.inside.rows.items = omega (arith, c.if-at-self.true, c.self.invariant.1.within) in
    ap (λ (l : List Row). count_by p (dialogs_in l)) c.swap.ensures.items
    ∙ swapped_same c.self.inside.rows.items c.args.at (c.self.inside.early - 1) inside last_inside p
    ∙ ap (λ (v : Entries). count_by p (dialogs_in v.entries)) c.self.view_is
