use Rattle.std.proofs.Common.{◌∙◌, refl, arith}
use Rattle.std.proofs.lemmas.Simd.{zip2_splat, length-chunk, length-zip2}
use lib.Lanes.{chunk}
use Rattle.sip_replay_script.specs.Gathered.{is_inside}
use Rattle.httparse.proofs.LaneLemmas.{run_in}
use Rattle.sip_replay_script.proofs.Gathering.{no_end_in, end_in}
use Rattle.sip_replay_script.proofs.gathered.end_in_lanes.Goals as goal

pub returns-then-ends-eq0 : goal.returns-then-ends-eq0
returns-then-ends-eq0 c =
    let v = chunk c.args.at 16 c.args.text.now in
    let long = length-chunk c.args.at 16 c.args.text.now c.requires in
    no_end_in c.args.text.now c.args.at _ (run_in is_inside c.args.text.now c.args.at 16 _ _ c.requires (omega arith) c.type_inv.text refl _ (zip2_splat _ v 16 10 long)
    refl) c.if-ends-eq0.true

pub returns-else-ends-eq0 : goal.returns-else-ends-eq0
returns-else-ends-eq0 c =
    let v = chunk c.args.at 16 c.args.text.now in
    let long = length-chunk c.args.at 16 c.args.text.now c.requires in
    end_in c.args.text.now c.args.at _ (length-zip2 _ v _ long ∙ long) (run_in is_inside c.args.text.now c.args.at 16 _ _ c.requires (omega arith) c.type_inv.text refl _
    (zip2_splat _ v 16 10 long) refl) c.if-ends-eq0.false
