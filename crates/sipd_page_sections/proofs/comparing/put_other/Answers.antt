use Rattle.std.proofs.Common.{codes}
use Rattle.std.proofs.lemmas.Result.{on_ok_weaker}
use Rattle.sipd_page_sections.specs.Log.{line_text, number_text}
use Rattle.sipd_calls.proofs.Parts.{three_parts}
use Rattle.sipd_page_sections.proofs.comparing.put_other.Goals as goal

pub returns : goal.returns
returns c =
    on_ok_weaker c.put_line-2.result
    (λ h. three_parts c.args.out.now (number_text c.args.number) (line_text (codes "<p>In the log:</p>\n") c.args.logged.now)
    (line_text (codes "<p>By the records:</p>\n") c.args.own.now) c.put_number.new.out c.put_line.new.out c.put_line-2.new.out c.in_ok-put_number.ensures
    c.in_ok-put_line.ensures h) c.put_line-2.ensures
