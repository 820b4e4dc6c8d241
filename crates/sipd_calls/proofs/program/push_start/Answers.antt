use Rattle.std.proofs.Common.{codes}
use Rattle.std.proofs.lemmas.Result.{on_ok_weaker}
use Rattle.sipd_calls.specs.Moments.{iso_text}
use Rattle.sipd_calls.proofs.Parts.{in_member}
use Rattle.sipd_calls.proofs.program.push_start.Goals as goal

pub returns : goal.returns
returns c =
    let call = c.args.call.now in
    on_ok_weaker c.push_further.result
    (λ h. in_member c.args.notation (codes "start") c.args.out.now c.new-start.result c.push_iso.new.text c.as_slice.result.now c.push_further.new.out
    (iso_text call.offset call.decision.at) c.new-start.ensures c.in_ok-push_iso.ensures c.as_slice.ensures h) c.push_further.ensures
