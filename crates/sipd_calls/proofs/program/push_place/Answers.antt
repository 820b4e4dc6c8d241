use Rattle.std.proofs.Common.{ℕ, List, ◌++◌, ◌∙◌, ap, codes}
use Rattle.std.proofs.lemmas.Result.{on_ok_weaker}
use Rattle.sipd_calls.specs.Notation.{Words, further_text}
use Rattle.sipd_calls.proofs.program.push_place.Goals as goal

pub returns : goal.returns
returns c =
    on_ok_weaker c.push_further.result
    (λ h. h ∙ ap (λ (text : List ℕ). c.args.out.now ++ further_text c.args.notation (codes "from") (Words text)) (c.as_slice.ensures ∙ c.in_ok-text.ensures))
    c.push_further.ensures
