use Rattle.std.proofs.Common.{arith}
use Rattle.sipd_report.specs.Totals.{shown_total}
use Rattle.sipd_report.proofs.Placing.{place_among-le, placed_is}
use Rattle.sipd_report.proofs.totals.place.Goals as goal

pub insert-requires : goal.insert-requires
insert-requires c = grind (arith, place_among-le (shown_total c.args.total.now) c.as_slice.result.now)

pub returns : goal.returns
returns c = rw (c.in_ok-insert.ensures.items, c.place_of-at.ensures, c.as_slice.ensures.value) (placed_is c.args.total c.args.rows.now.items)
