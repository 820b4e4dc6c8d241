use Rattle.std.proofs.Common.{rules, is_lt, ◌∙◌}
use Rattle.std.proofs.lemmas.List.Sorted.{answers_always}
use Rattle.sip_text.specs.Distinct.{order_without_case}
use Rattle.sip_text.proofs.Differing.{Text, order_ranks, differ_in_any_order}
use Rattle.sip_text.proofs.distinct_texts.all_differ.Goals as goal

pub neighbours_differ-requires : goal.neighbours_differ-requires
neighbours_differ-requires c = c.sort_unstable_by.ensures.sorted (λ (a : Text) (b : Text). is_lt (order_without_case a.now b.now)) order_ranks
    (answers_always _ _ _ (λ f a r g h. search rules))

pub returns : goal.returns
returns c = c.neighbours_differ.ensures ∙ differ_in_any_order c.args.texts.now c.sort_unstable_by.new.self c.sort_unstable_by.ensures.permutation
