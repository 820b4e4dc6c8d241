use Rattle.std.proofs.Common.{rules, Bor, is_lt}
use Rattle.std.proofs.lemmas.List.Sorted.{answers_always}
use Rattle.sip_uri.specs.declared.parameters.UriParameter.{UriParameter}
use Rattle.sip_uri_equality.specs.Order.{order_of_names}
use Rattle.sip_uri_equality.proofs.OrderLaws.{in_order, behind_references, moved_behind_references}
use Rattle.sip_uri_equality.proofs.ParameterLaws.{references_total, names_rank}
use Rattle.sip_uri_equality.proofs.parameter_order.put_in_order.Goals as goal

pub returns-clause-moved : goal.returns-clause-moved
returns-clause-moved c = moved_behind_references c.args.parameters.now c.refer_to.new.places c.sort_unstable_by.new.self c.refer_to.ensures
    c.sort_unstable_by.ensures.permutation

pub returns-clause-in_order : goal.returns-clause-in_order
returns-clause-in_order c =
    behind_references order_of_names c.sort_unstable_by.new.self
    (in_order references_total c.sort_unstable_by.new.self (c.sort_unstable_by.ensures.sorted
    (λ (a : Bor UriParameter) (b : Bor UriParameter). is_lt (order_of_names a.now b.now)) names_rank (answers_always _ _ _ (λ f a r g h. search rules))))
