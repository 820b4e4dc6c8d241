use Rattle.std.proofs.Common.{codes}
use Rattle.std.proofs.lemmas.Result.{on_ok_weaker}
use Rattle.sipd_calls.specs.Notation.{end_text}
use Rattle.sipd_calls.proofs.Parts.{three_parts}
use Rattle.sipd_sources.specs.Program.{moment_member}
use Rattle.sipd_sources.proofs.program.push_times.Goals as goal

pub returns : goal.returns
returns c =
    let source = c.args.source.now in
    let notation = c.args.notation in
    on_ok_weaker c.push_end.result
    (λ h. three_parts c.args.out.now (moment_member notation (codes "first") source.first) (moment_member notation (codes "last") source.last) (end_text notation)
    c.push_moment.new.out c.push_moment-2.new.out c.push_end.new.out c.in_ok-push_moment.ensures c.in_ok-push_moment-2.ensures h) c.push_end.ensures
