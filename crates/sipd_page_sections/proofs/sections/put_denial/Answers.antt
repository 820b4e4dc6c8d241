use Rattle.std.proofs.Common.{ℕ, List, ◌++◌, ◌∙◌, ap, codes}
use Rattle.std.proofs.lemmas.Result.{on_ok_weaker}
use Rattle.sipd_calls.specs.Notation.{Number, Words, end_text, first_text, further_text}
use Rattle.sipd_calls.specs.declared.notation.Notation.TheVariants.{Html}
use Rattle.sipd_calls.proofs.Parts.{three_parts}
use Rattle.sipd_page_sections.proofs.sections.put_denial.Goals as goal

pub returns : goal.returns
returns c =
    let row = c.args.row.now in
    on_ok_weaker c.push_end.result
    (λ h. three_parts c.args.out.now (first_text Html (codes "rule") (Words row.key)) (further_text Html (codes "denied") (Number row.value)) (end_text Html)
    c.push_first.new.out c.push_further.new.out c.push_end.new.out
    (c.in_ok-push_first.ensures ∙ ap (λ (key : List ℕ). c.args.out.now ++ first_text Html (codes "rule") (Words key)) c.as_slice.ensures)
    c.in_ok-push_further.ensures h) c.push_end.ensures
