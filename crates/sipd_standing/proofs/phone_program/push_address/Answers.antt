use Rattle.std.proofs.Common.{codes}
use Rattle.std.proofs.lemmas.Result.{on_ok_weaker}
use Rattle.sip_audit.specs.Lines.{target_text}
use Rattle.sipd_standing.proofs.Firsts.{in_first}
use Rattle.sipd_standing.proofs.phone_program.push_address.Goals as goal

pub returns : goal.returns
returns c =
    on_ok_weaker c.push_first.result
    (λ h. in_first c.args.notation (codes "registered") c.args.out.now c.new-address.result c.put_target.new.text c.as_slice.result.now c.push_first.new.out
    (target_text c.args.row.now.aor) c.new-address.ensures c.in_ok-put_target.ensures c.as_slice.ensures h) c.push_first.ensures
