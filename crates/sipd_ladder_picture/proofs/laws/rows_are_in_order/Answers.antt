use Rattle.sipd_ladder_picture.proofs.Order.{joined_rows}
use Rattle.sipd_ladder_picture.proofs.laws.rows_are_in_order.Goals as goal

pub returns : goal.returns
returns c = joined_rows
