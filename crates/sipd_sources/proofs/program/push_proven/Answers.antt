use Rattle.std.proofs.Common.{codes}
use Rattle.std.proofs.lemmas.Result.{on_ok_weaker}
use Rattle.sipd_calls.specs.Notation.{Number, further_text}
use Rattle.sipd_calls.proofs.Parts.{three_parts}
use Rattle.sipd_sources.proofs.program.push_proven.Goals as goal

pub returns : goal.returns
returns c =
    let source = c.args.source.now in
    let notation = c.args.notation in
    on_ok_weaker c.push_further-3.result
    (λ h. three_parts c.args.out.now (further_text notation (codes "proven") (Number source.proven)) (further_text notation (codes "wrong") (Number source.wrong))
    (further_text notation (codes "names") (Number source.names)) c.push_further.new.out c.push_further-2.new.out c.push_further-3.new.out
    c.in_ok-push_further.ensures c.in_ok-push_further-2.ensures h) c.push_further-3.ensures
