use Rattle.std.proofs.Common.{codes}
use Rattle.std.proofs.lemmas.Result.{on_ok_weaker}
use Rattle.sip_days.specs.Results.{result_of}
use Rattle.sipd_calls.specs.Words.{result_text}
use Rattle.sipd_calls.proofs.Parts.{in_member}
use Rattle.sipd_calls.proofs.program.push_came.Goals as goal

pub returns : goal.returns
returns c =
    let call = c.args.call.now in
    on_ok_weaker c.push_further.result
    (λ h. in_member c.args.notation (codes "result") c.args.out.now c.new-came.result c.push_came_of.new.text c.as_slice.result.now c.push_further.new.out
    (result_text (result_of call)) c.new-came.ensures c.in_ok-push_came_of.ensures c.as_slice.ensures h) c.push_further.ensures
