use Rattle.sipd_days.proofs.Printing.{prints_table}
use Rattle.sipd_days.proofs.moments.show_table.Goals as goal

pub returns : goal.returns
returns g c =
    prints_table c.print_to.result c.args.table c.args.call.now c.in_ok-time.time c.in_ok-day.day.text c.in_ok-day.day.end
    (g.W.Write.contents c.args.output.now) (g.W.Write.contents c.print_to.new.output) c.in_ok-time.ensures.said c.in_ok-day.ensures
    c.print_to.ensures.printed c.print_to.ensures.whole
