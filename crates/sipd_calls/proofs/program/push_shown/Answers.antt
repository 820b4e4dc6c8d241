use Rattle.std.proofs.lemmas.Result.{on_ok_weaker}
use Rattle.sipd_calls.specs.Choices.{is_shown}
use Rattle.sipd_calls.specs.Program.{call_text}
use Rattle.sipd_calls.proofs.Shown.{text_hidden, text_shown}
use Rattle.sipd_calls.proofs.program.push_shown.Goals as goal

pub returns-then-shown : goal.returns-then-shown
returns-then-shown c =
    on_ok_weaker c.push_call.result
    (λ h. text_shown (is_shown c.args.choice.now c.args.call.now) c.in_ok-shown.shown c.args.out.now (call_text c.args.notation c.args.call.now)
    c.push_call.new.out c.in_ok-shown.ensures c.if-shown.true h) c.push_call.ensures

pub returns : goal.returns
returns c =
    text_hidden (is_shown c.args.choice.now c.args.call.now) c.in_ok-shown.shown c.args.out.now (call_text c.args.notation c.args.call.now)
    c.in_ok-shown.ensures c.if-shown.false
