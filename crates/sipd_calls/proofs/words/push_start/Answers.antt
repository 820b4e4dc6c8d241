use Rattle.std.proofs.Common.{ℕ, ◌++◌, ◌∙◌, ap}
use Rattle.std.proofs.lemmas.Result.{on_ok_weaker}
use Rattle.sipd_calls.specs.Moments.{short_text}
use Rattle.sipd_calls.proofs.words.push_start.Goals as goal

pub returns : goal.returns
returns c =
    on_ok_weaker c.push_short.result
    (λ h. h ∙ ap (λ (seconds : ℕ). c.args.text.now ++ short_text seconds) c.began.ensures.shown) c.push_short.ensures
