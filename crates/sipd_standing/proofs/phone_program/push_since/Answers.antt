use Rattle.std.proofs.Common.{codes}
use Rattle.std.proofs.lemmas.Result.{on_ok_weaker}
use Rattle.sipd_calls.specs.Moments.{iso_text}
use Rattle.sipd_calls.proofs.Parts.{in_member}
use Rattle.sipd_standing.proofs.phone_program.push_since.Goals as goal

pub returns : goal.returns
returns c =
    on_ok_weaker c.push_further.result
    (λ h. in_member c.args.notation (codes "since") c.args.out.now c.new-moment.result c.push_moment.new.text c.as_slice.result.now c.push_further.new.out
    (iso_text c.args.row.now.offset c.args.row.now.at) c.new-moment.ensures c.in_ok-push_moment.ensures c.as_slice.ensures h) c.push_further.ensures
