use Rattle.std.proofs.Common.{ℕ, List, ◌++◌, ◌∙◌, ap, codes}
use Rattle.std.proofs.lemmas.Result.{on_ok_weaker}
use Rattle.sipd_calls.specs.Notation.{Words, first_text}
use Rattle.sipd_sources.proofs.program.push_address.Goals as goal

pub returns : goal.returns
returns c =
    on_ok_weaker c.push_first.result
    (λ h. h ∙ ap (λ (text : List ℕ). c.args.out.now ++ first_text c.args.notation (codes "address") (Words text)) (c.as_slice.ensures ∙ c.in_ok-text.ensures))
    c.push_first.ensures
