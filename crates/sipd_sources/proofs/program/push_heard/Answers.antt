use Rattle.std.proofs.Common.{codes}
use Rattle.std.proofs.lemmas.Result.{on_ok_weaker}
use Rattle.sipd_calls.specs.Notation.{Number, further_text}
use Rattle.sipd_calls.proofs.Parts.{three_parts}
use Rattle.sipd_sources.specs.Program.{address_member}
use Rattle.sipd_sources.proofs.program.push_heard.Goals as goal

pub returns : goal.returns
returns c =
    let source = c.args.source.now in
    let notation = c.args.notation in
    on_ok_weaker c.push_further-2.result
    (λ h. three_parts c.args.out.now (address_member notation source.ip) (further_text notation (codes "heard") (Number source.heard))
    (further_text notation (codes "asked") (Number source.challenged)) c.push_address.new.out c.push_further.new.out c.push_further-2.new.out
    c.in_ok-push_address.ensures c.in_ok-push_further.ensures h) c.push_further-2.ensures
