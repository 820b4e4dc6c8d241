use Rattle.std.proofs.lemmas.Result.{on_ok_weaker}
use Rattle.sipd_calls.specs.Notation.{end_text}
use Rattle.sipd_calls.specs.Program.{source_member}
use Rattle.sipd_calls.proofs.Parts.{three_parts}
use Rattle.sipd_standing.specs.PhoneProgram.{since_member}
use Rattle.sipd_standing.proofs.phone_program.push_back.Goals as goal

pub returns : goal.returns
returns c =
    let row = c.args.row.now in
    let notation = c.args.notation in
    on_ok_weaker c.push_end.result
    (λ h. three_parts c.args.out.now (since_member notation row) (source_member notation row.source) (end_text notation) c.push_since.new.out
    c.push_source.new.out c.push_end.new.out c.in_ok-push_since.ensures c.in_ok-push_source.ensures h) c.push_end.ensures
