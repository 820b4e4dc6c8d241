use Rattle.std.proofs.Common.{◌-◌, ◌<◌, ◌≤◌, ap, arith, length, swap}
use Rattle.std.proofs.lemmas.List.Edits.{length-swap}
use Rattle.sip_dialog.specs.Rows.{Entries}
use Rattle.sip_dialog.proofs.Ending.{known_taken}
use Rattle.sip_dialog.proofs.Named.{named_length, named_swapped, named_removed}
use Rattle.sip_dialog.proofs.Places.{Removal, removal_from, plain_taken, plain_behind, swapped_taken, swapped_behind, swapped_len, front_taken, front_less}
use Rattle.sip_dialog.proofs.rows.DialogRows.take_out.Goals as goal
use Rattle.sip_dialog.proofs.rows.DialogRows.take_out.Goals.{After-drop-taken, After-drop-early}

-- ---- a row behind those in front

inside : (c : After-drop-taken) → c.args.at < length c.self.inside.rows.items
inside c = omega (arith, c.requires, ap (λ (v : Entries). length v.entries) c.self.view_is)

left : (c : After-drop-taken) → Removal c.self.inside.rows.items c.args.at c.swap_remove-taken.new.self.items
left c = record {
  other = c.swap_remove-taken.result;
  is = c.swap_remove-taken.ensures.items;
  long = omega (arith, c.swap_remove-taken.ensures.len, c.swap_remove-taken.new.self.ok.0, c.self.inside.rows.ok.0);
}

pub invariant_of-self : goal.invariant_of-self
invariant_of-self c = (
  rw (c.swap_remove-taken.ensures.items, c.swap_remove.ensures.list)
      (named_removed c.self.inside.keyed c.self.inside.digests.list c.self.inside.rows.items c.self.invariant.0 c.args.at c.swap_remove-taken.result (inside c)),
  front_taken c.self.inside.early c.self.inside.rows.items c.self.invariant.1 c.args.at c.swap_remove-taken.result _ c.if-at-self.true (inside c)
      c.swap_remove-taken.ensures.items (left c).long,
  known_taken c.self.inside.until c.self.inside.rows.items c.self.invariant.2 c.args.at c.swap_remove-taken.result c.swap_remove-taken.new.self.items (inside c)
      (plain_taken c.self.inside.rows.items c.swap_remove-taken.new.self.items c.args.at (inside c) (left c)),
)

pub returns-then-at-self-clause-taken : goal.returns-then-at-self-clause-taken
returns-then-at-self-clause-taken c = rw (← c.self.view_is) (plain_taken _ _ c.args.at (inside c) (left c))

pub returns-then-at-self-clause-behind : goal.returns-then-at-self-clause-behind
returns-then-at-self-clause-behind c = rw (← c.self.view_is) (plain_behind _ _ c.args.at (inside c) (left c))

-- ---- one of those in front

pub swap_remove-requires-2 : goal.swap_remove-requires-2
swap_remove-requires-2 c = omega (
  arith,
  c.if-at-self.false,
  c.self.invariant.1.within,
  named_length c.self.inside.keyed c.self.inside.digests.list c.self.inside.rows.items c.self.invariant.0,
  length-swap c.self.inside.digests.list c.args.at (c.self.inside.early - 1),
  ap length c.swap-2.ensures.list,
)

order : (c : After-drop-early) → c.args.at ≤ c.self.inside.early - 1
order c = omega (arith, c.if-at-self.false)

last_inside : (c : After-drop-early) → c.self.inside.early - 1 < length c.self.inside.rows.items
last_inside c = omega (arith, c.if-at-self.false, c.self.invariant.1.within)

moved : (c : After-drop-early) → Removal (swap c.self.inside.rows.items c.args.at (c.self.inside.early - 1)) (c.self.inside.early - 1) c.swap_remove-early.new.self.items
moved c =
    removal_from c.self.inside.rows.items c.swap.new.self.items _ c.args.at (c.self.inside.early - 1) c.swap.ensures.items
    (record {
      other = c.swap_remove-early.result;
      is = c.swap_remove-early.ensures.items;
      long = omega (arith, c.swap_remove-early.ensures.len, c.swap_remove-early.new.self.ok.0, c.swap.new.self.ok.0);
    })

pub invariant_of-self-2 : goal.invariant_of-self-2
invariant_of-self-2 c = (
  rw (c.swap_remove-early.ensures.items, c.swap.ensures.items, c.swap_remove-2.ensures.list, c.swap-2.ensures.list)
      (named_removed c.self.inside.keyed (swap c.self.inside.digests.list c.args.at (c.self.inside.early - 1))
      (swap c.self.inside.rows.items c.args.at (c.self.inside.early - 1))
      (named_swapped c.self.inside.keyed c.self.inside.digests.list c.self.inside.rows.items c.self.invariant.0 c.args.at (c.self.inside.early - 1)
      (omega (arith, order c, last_inside c)) (last_inside c))
      (c.self.inside.early - 1) c.swap_remove-early.result (omega (arith, last_inside c, length-swap c.self.inside.rows.items c.args.at (c.self.inside.early - 1)))),
  front_less c.self.inside.early c.self.inside.rows.items c.self.invariant.1 c.args.at (c.self.inside.early - 1) (moved c).other _ (omega (arith, c.if-at-self.false))
      (omega (arith, c.if-at-self.false)) (moved c).is
      (swapped_len _ _ c.args.at (c.self.inside.early - 1) (order c) (last_inside c) (moved c)),
  known_taken c.self.inside.until c.self.inside.rows.items c.self.invariant.2 c.args.at c.swap_remove-early.result c.swap_remove-early.new.self.items
      (omega (arith, order c, last_inside c))
      (swapped_taken c.self.inside.rows.items c.swap_remove-early.new.self.items c.args.at (c.self.inside.early - 1) (order c) (last_inside c) (moved c)),
)

pub returns-clause-taken : goal.returns-clause-taken
returns-clause-taken c = rw (← c.self.view_is) (swapped_taken _ _ c.args.at (c.self.inside.early - 1) (order c) (last_inside c) (moved c))

pub returns-clause-behind : goal.returns-clause-behind
returns-clause-behind c = rw (← c.self.view_is) (swapped_behind _ _ c.args.at (c.self.inside.early - 1) (order c) (last_inside c) (moved c))
