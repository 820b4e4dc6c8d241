use Rattle.std.proofs.Common.{refl}
use Rattle.sipd_days.proofs.PrintingSources.{prints_further}
use Rattle.sipd_days.proofs.sources.tell_records.Goals as goal

pub loop-path-init : goal.loop-path-init
loop-path-init g c = refl

pub loop-path-preserved : goal.loop-path-preserved
loop-path-preserved g c =
    prints_further c.args.counting.form c.args.counting.filter c.loop-path.path-index (g.W.Write.contents c.args.output.now)
    (g.W.Write.contents c.loop-path.output) (g.W.Write.contents c.tell_record.new.output) c.loop-path.invariant c.in_ok-tell_record.ensures
