use Rattle.std.proofs.Common.{refl}
use Rattle.sipd_report.proofs.examples.order_of_totals.Goals as goal

pub returns : goal.returns
returns c = refl
