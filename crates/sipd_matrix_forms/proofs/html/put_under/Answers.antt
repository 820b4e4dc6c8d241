use Rattle.std.proofs.Common.{ℕ, List, ◌++◌, ◌∙◌, ap}
use Rattle.std.proofs.lemmas.Result.{on_ok_weaker}
use Rattle.sipd_matrix.specs.Text.{foot}
use Rattle.sipd_matrix_forms.specs.Html.{text_block}
use Rattle.sipd_matrix_forms.proofs.html.put_under.Goals as goal

pub returns : goal.returns
returns c =
    let matrix = c.args.matrix.now in
    let all = foot matrix.config.now matrix.operation.now matrix.table.now c.args.numbers.now in
    on_ok_weaker c.put_block.result
    (λ h. h ∙ ap (λ (text : List ℕ). c.args.text.now ++ text_block text)
    (c.as_slice.ensures ∙ c.in_ok-put_foot.ensures ∙ ap (λ (text : List ℕ). text ++ all) c.new-foot.ensures)) c.put_block.ensures
