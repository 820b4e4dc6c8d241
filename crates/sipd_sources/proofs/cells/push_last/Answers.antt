use Rattle.std.proofs.Common.{[], ◌∷◌}
use Rattle.std.proofs.lemmas.Result.{on_ok_weaker}
use Rattle.sipd_calls.specs.Moments.{start_text}
use Rattle.sipd_calls.proofs.Parts.{two_parts}
use Rattle.sipd_sources.proofs.cells.push_last.Goals as goal

pub returns : goal.returns
returns c =
    on_ok_weaker c.push.result
    (λ h. two_parts c.args.out.now (start_text c.args.moment.offset c.args.moment.at) (10 ∷ []) c.push_moment.new.text c.push.new.self
    c.in_ok-push_moment.ensures h) c.push.ensures.ok
