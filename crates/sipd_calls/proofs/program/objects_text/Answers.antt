use Rattle.std.proofs.Common.{[]}
use Rattle.sip_days.specs.declared.call.Call.{Call}
use Rattle.sipd_calls.specs.Choices.{if_shown}
use Rattle.sipd_calls.specs.Program.{call_text}
use Rattle.sipd_calls.proofs.Parts.{one_more}
use Rattle.sipd_calls.proofs.program.objects_text.Goals as goal

pub loop-call-preserved : goal.loop-call-preserved
loop-call-preserved c =
    one_more (λ (call : Call). if_shown c.args.choice.now call (call_text c.args.notation call)) c.args.calls.now c.loop-call.call-index c.call-item.result []
    c.loop-call.out c.push_shown.new.out c.loop-call-test.true c.call-item.is c.loop-call.invariant c.in_ok-push_shown.ensures
