use Rattle.std.proofs.Common.{ℕ, ◌++◌, ◌∙◌, ap}
use Rattle.std.specs.Str.{byte}
use Rattle.std.proofs.lemmas.Result.{on_ok_weaker}
use Rattle.sipd_report.specs.Times.{dated_text, offset_text}
use Rattle.sipd_calls.specs.Choices.{began}
use Rattle.sipd_calls.proofs.Parts.{two_parts}
use Rattle.sipd_calls.proofs.words.push_iso.Goals as goal

pub returns : goal.returns
returns c =
    let call = c.args.call.now in
    on_ok_weaker c.push_ahead.result
    (λ h. two_parts c.args.text.now (dated_text (byte "T") (began call)) (offset_text call.offset) c.push_dated.new.text c.push_ahead.new.text
    (c.in_ok-push_dated.ensures ∙ ap (λ (seconds : ℕ). c.args.text.now ++ dated_text (byte "T") seconds) c.began.ensures.shown) h) c.push_ahead.ensures
