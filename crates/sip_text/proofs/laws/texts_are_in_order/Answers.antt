use Rattle.sip_text.proofs.Differing.{order_is_total, equal_is_same, differ_by_places}
use Rattle.sip_text.proofs.laws.texts_are_in_order.Goals as goal

pub returns-clause-order : goal.returns-clause-order
returns-clause-order c = order_is_total

pub returns-clause-equal : goal.returns-clause-equal
returns-clause-equal c = equal_is_same

pub returns-clause-differ : goal.returns-clause-differ
returns-clause-differ c = differ_by_places
