use Rattle.std.proofs.Common.{refl, arith}
use Rattle.std.proofs.lemmas.Simd.{zip2_splat, length-chunk}
use lib.Lanes.{chunk}
use Rattle.httparse.proofs.LaneLemmas.{joined, run_in}
use Rattle.sip_text_runs.specs.TextRun.{is_text_but_tab}
use Rattle.sip_text_runs.proofs.text_run.text_in_lanes.Goals as goal

pub returns : goal.returns
returns c =
    let v = chunk c.args.at 16 c.args.bytes.now in
    let long = length-chunk c.args.at 16 c.args.bytes.now c.requires in
    run_in is_text_but_tab c.args.bytes.now c.args.at 16 _ _ c.requires (omega arith) c.type_inv.bytes c.first_set.ensures _
    (joined _ _ _ v (zip2_splat _ v 16 32 long) (zip2_splat _ v 16 127 long)) refl
