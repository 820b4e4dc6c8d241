use Rattle.std.proofs.lemmas.Result.{on_ok_weaker}
use Rattle.sipd_calls.specs.Moments.{iso_text}
use Rattle.sipd_calls.proofs.Parts.{in_member}
use Rattle.sipd_sources.proofs.program.push_moment.Goals as goal

pub returns : goal.returns
returns c =
    on_ok_weaker c.push_further.result
    (λ h. in_member c.args.notation c.args.name.now c.args.out.now c.new-text.result c.push_iso.new.text c.as_slice.result.now c.push_further.new.out
    (iso_text c.args.moment.offset c.args.moment.at) c.new-text.ensures c.in_ok-push_iso.ensures c.as_slice.ensures h) c.push_further.ensures
