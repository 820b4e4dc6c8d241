use Rattle.std.proofs.Common.{[], ◌∷◌, ◌++◌, ◌∙◌, ap, codes}
use Rattle.std.proofs.lemmas.Result.{on_ok_weaker}
use Rattle.sipd_calls.specs.Moments.{length_text, seconds_of}
use Rattle.sipd_calls.proofs.Parts.{three_parts}
use Rattle.sipd_calls.proofs.totals.push_talked.Goals as goal

pub returns : goal.returns
returns c =
    on_ok_weaker c.push.result
    (λ h. three_parts c.args.out.now (codes ", talked: ") (length_text (seconds_of c.args.talked)) (10 ∷ []) c.extend.new.self c.push_length.new.text
    c.push.new.self c.in_ok-extend.ensures.ok (c.in_ok-push_length.ensures ∙ ap (λ n. c.extend.new.self ++ length_text n) c.seconds_of.ensures) h)
    c.push.ensures.ok
