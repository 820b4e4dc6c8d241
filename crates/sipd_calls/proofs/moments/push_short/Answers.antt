use Rattle.std.proofs.Common.{◌++◌, ◌∙◌, ◌/◌, ◌%◌, ap, codes}
use Rattle.std.proofs.lemmas.Result.{on_ok_weaker}
use Rattle.sipd_report.specs.declared.calendar.Date.{Date}
use Rattle.sipd_report.specs.Calendar.{date_of}
use Rattle.sipd_report.specs.Times.{clock_text}
use Rattle.sipd_calls.specs.Moments.{day_text}
use Rattle.sipd_calls.proofs.MomentParts.{three_parts}
use Rattle.sipd_calls.proofs.moments.push_short.Goals as goal

pub returns : goal.returns
returns c =
    on_ok_weaker c.push_clock.result
    (λ h. three_parts c.args.text.now (day_text (date_of (c.args.seconds / 86400))) (codes " ") (clock_text (c.args.seconds % 86400)) c.push_day.new.text
    c.push.new.self c.push_clock.new.text
    (c.in_ok-push_day.ensures ∙ ap (λ (date : Date). c.args.text.now ++ day_text date) c.date_of.ensures) c.in_ok-push.ensures.ok h) c.push_clock.ensures
