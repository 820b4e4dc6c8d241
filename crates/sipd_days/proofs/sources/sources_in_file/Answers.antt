use Rattle.sipd_days.proofs.PrintingSources.{were_ok}
use Rattle.sipd_days.proofs.sources.sources_in_file.Goals as goal

pub returns : goal.returns
returns g c =
    were_ok c.into_text.result c.args.form c.every_datagram.result c.in_ok-day.day.text c.in_ok-day.day.taken.ahead c.in_ok-day.day.in_force.ahead
    c.in_ok-day.day.end c.every_datagram.ensures c.in_ok-day.ensures c.into_text.ensures.text c.into_text.ensures.whole
