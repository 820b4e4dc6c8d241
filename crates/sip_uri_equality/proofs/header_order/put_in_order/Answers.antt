use Rattle.std.proofs.Common.{rules, Bor, is_lt}
use Rattle.std.proofs.lemmas.List.Sorted.{answers_always}
use Rattle.sip_uri.specs.declared.headers.UriHeader.{UriHeader}
use Rattle.sip_uri_equality.specs.Order.{order_of_headers}
use Rattle.sip_uri_equality.proofs.OrderLaws.{in_order, behind_references, moved_behind_references}
use Rattle.sip_uri_equality.proofs.HeaderLaws.{references_total, headers_rank}
use Rattle.sip_uri_equality.proofs.header_order.put_in_order.Goals as goal

pub returns-clause-moved : goal.returns-clause-moved
returns-clause-moved c = moved_behind_references c.args.headers.now c.refer_to.new.places c.sort_unstable_by.new.self c.refer_to.ensures
    c.sort_unstable_by.ensures.permutation

pub returns-clause-in_order : goal.returns-clause-in_order
returns-clause-in_order c =
    behind_references order_of_headers c.sort_unstable_by.new.self
    (in_order references_total c.sort_unstable_by.new.self (c.sort_unstable_by.ensures.sorted
    (λ (a : Bor UriHeader) (b : Bor UriHeader). is_lt (order_of_headers a.now b.now)) headers_rank (answers_always _ _ _ (λ f a r g h. search rules))))
