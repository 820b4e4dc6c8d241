use Rattle.std.proofs.Common.{◌++◌, ap, ◌∙◌}
use Rattle.std.proofs.lemmas.Result.{on_ok_weaker}
use Rattle.sip_matrix.specs.declared.table.PolicyTable.{PolicyTable}
use Rattle.sipd_matrix_forms.specs.Html.{policy_of}
use Rattle.sipd_matrix_forms.proofs.html.put_policy.Goals as goal

pub returns : goal.returns
returns c =
    on_ok_weaker c.put_table_of.result
    (λ h. h ∙ ap (λ (table : PolicyTable). c.args.text.now ++ policy_of c.args.level c.args.config.now c.args.operation.now table) c.in_ok-table.ensures)
    c.put_table_of.ensures
