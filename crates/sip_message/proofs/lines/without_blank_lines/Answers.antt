use Rattle.std.proofs.Common.{refl, sym, ◌∙◌}
use Rattle.sip_message.proofs.Wholes.{itself, cut_again}
use Rattle.sip_message.proofs.lines.without_blank_lines.Goals as goal

pub loop-after-init : goal.loop-after-init
loop-after-init c = (refl, itself c.args.bytes)

pub loop-after-preserved : goal.loop-after-preserved
loop-after-preserved c = (
  sym c.in-Some.ensures.rest.0 ∙ c.loop-after.invariant.0,
  cut_again c.args.bytes c.loop-after.rest.bytes c.in-Some.after c.loop-after.invariant.1
      c.in-Some.ensures.cut,
)
