use Rattle.std.proofs.Common.{codes}
use Rattle.std.proofs.lemmas.Result.{on_ok_weaker}
use Rattle.sip_audit.specs.Lines.{target_text}
use Rattle.sipd_calls.proofs.Parts.{in_member}
use Rattle.sipd_calls.proofs.program.push_called.Goals as goal

pub returns : goal.returns
returns c =
    let call = c.args.call.now in
    on_ok_weaker c.push_further.result
    (λ h. in_member c.args.notation (codes "called") c.args.out.now c.new-called.result c.put_target.new.text c.as_slice.result.now c.push_further.new.out
    (target_text call.decision.target) c.new-called.ensures c.in_ok-put_target.ensures c.as_slice.ensures h) c.push_further.ensures
