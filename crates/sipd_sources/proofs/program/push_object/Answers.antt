use Rattle.std.proofs.lemmas.Result.{on_ok_weaker}
use Rattle.sipd_calls.proofs.Parts.{three_parts}
use Rattle.sipd_sources.specs.Program.{heard_text, proven_text, times_text}
use Rattle.sipd_sources.proofs.program.push_object.Goals as goal

pub returns : goal.returns
returns c =
    let source = c.args.source.now in
    let notation = c.args.notation in
    on_ok_weaker c.push_times.result
    (λ h. three_parts c.args.out.now (heard_text notation source) (proven_text notation source) (times_text notation source) c.push_heard.new.out
    c.push_proven.new.out c.push_times.new.out c.in_ok-push_heard.ensures c.in_ok-push_proven.ensures h) c.push_times.ensures
