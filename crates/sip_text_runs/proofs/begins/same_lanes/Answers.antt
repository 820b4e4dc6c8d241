use Rattle.std.proofs.lemmas.Bool.{eqb-true, eq-eqb}
use Rattle.sip_text_runs.proofs.Beginnings.{lanes_same, lanes_unset}
use Rattle.sip_text_runs.proofs.begins.same_lanes.Goals as goal

pub returns : goal.returns
returns c = (
  λ same. lanes_same c.args.left.now c.args.right.now c.args.at c.requires.left c.requires.right (eqb-true _ 0 same),
  λ same. eq-eqb _ 0 (lanes_unset c.args.left.now c.args.right.now c.args.at same),
)
