use Rattle.sipd_days.proofs.PrintingSources.{prints_one}
use Rattle.sipd_days.proofs.sources.tell_record.Goals as goal

pub returns : goal.returns
returns g c =
    prints_one c.print_to.result c.args.counting.form c.args.counting.filter c.in_ok-day.day.text c.in_ok-day.day.taken.ahead
    c.in_ok-day.day.in_force.ahead c.in_ok-day.day.end (g.W.Write.contents c.args.output.now) (g.W.Write.contents c.print_to.new.output)
    c.in_ok-day.ensures c.print_to.ensures.printed c.print_to.ensures.whole
