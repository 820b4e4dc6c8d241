use Rattle.sipd_report.proofs.Sums.{front_fits, front_is_short}
use Rattle.sipd_report.proofs.said.days_before_month.Goals as goal

pub days_in-requires : goal.days_in-requires
days_in-requires c = front_fits c.days_of_months-months.result c.front_of.result.now _ c.args.year c.days_of_months-months.ensures c.front_of.ensures

pub returns-clause-small : goal.returns-clause-small
returns-clause-small c =
    front_is_short c.days_of_months-months.result c.front_of.result.now _ c.args.year c.days_in.result c.days_of_months-months.ensures c.front_of.ensures
    c.days_in.ensures
