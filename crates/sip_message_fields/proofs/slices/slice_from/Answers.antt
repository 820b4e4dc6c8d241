use Rattle.std.proofs.Common.{◌-◌, ◌∙◌, length, drop, arith}
use Rattle.std.proofs.lemmas.List.{take_all, length-drop}
use Rattle.sip_message_fields.proofs.slices.slice_from.Goals as goal

pub returns-clause-value : goal.returns-clause-value
returns-clause-value c = c.slice_of.ensures.value ∙ take_all (length c.args.source.now - c.args.start) (drop c.args.start c.args.source.now)
    (omega (arith, length-drop c.args.start c.args.source.now))
