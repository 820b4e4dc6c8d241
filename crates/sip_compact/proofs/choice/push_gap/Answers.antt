use Rattle.std.proofs.Common.{◌∙◌, ◌-◌, ap}
use Rattle.sip_compact.specs.Parts.{lines_in}
use Rattle.sip_compact.proofs.Parting.{lines_gap}
use Rattle.sip_compact.proofs.choice.push_gap.Goals as goal

pub returns-in_ok-push : goal.returns-in_ok-push
returns-in_ok-push c = ap lines_in c.in_ok-push.ensures.ok ∙ lines_gap c.args.choices.now (c.args.to - c.args.from)
