use Rattle.sipd_report.proofs.Totaling.{total_is_count}
use Rattle.sipd_report.proofs.laws.totals_are_counts.Goals as goal

pub returns : goal.returns
returns c = total_is_count
