use Rattle.std.proofs.Common.{[], ◌∷◌, ◌++◌, ◌∙◌, ap}
use Rattle.std.proofs.lemmas.Result.{on_ok_weaker}
use Rattle.sipd_calls.specs.Moments.{length_text, seconds_of}
use Rattle.sipd_calls.proofs.Parts.{two_parts}
use Rattle.sipd_standing.proofs.table.push_for.Goals as goal

pub returns : goal.returns
returns c =
    on_ok_weaker c.push.result
    (λ h. two_parts c.args.out.now (length_text (seconds_of c.args.milliseconds)) (10 ∷ []) c.push_length.new.text c.push.new.self
    (c.in_ok-push_length.ensures ∙ ap (λ n. c.args.out.now ++ length_text n) c.seconds_of.ensures) h) c.push.ensures.ok
