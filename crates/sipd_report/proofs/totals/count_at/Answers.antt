use Rattle.std.proofs.Common.{arith}
use Rattle.sipd_report.proofs.Additions.{counts_there, counts_nowhere}
use Rattle.sipd_report.proofs.totals.count_at.Goals as goal

pub returns-then-place-len : goal.returns-then-place-len
returns-then-place-len c =
    counts_there c.args.list.now.items c.args.place c.index_mut.result.now c.index.result.now c.saturating_add.result
    (omega (arith, c.if-place-len.true, c.len.ensures, c.args.list.now.ok)) c.index_mut.ensures.value c.index.ensures c.saturating_add.ensures

pub returns-else-place-len : goal.returns-else-place-len
returns-else-place-len c = counts_nowhere c.args.list.now.items c.args.place (omega (arith, c.if-place-len.false, c.len.ensures, c.args.list.now.ok))
