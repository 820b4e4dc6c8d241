use Rattle.std.proofs.Common.{ℕ, List, ap₂, ◌∙◌}
use Rattle.sip_policy.specs.declared.rule.Rule.{Rule}
use Rattle.sip_matrix.specs.Table.{table_of}
use Rattle.sipd_matrix.proofs.matrix.policy_table.Goals as goal

pub returns : goal.returns
returns c =
    let config = c.args.config.now in
    c.in_ok-table.ensures ∙ ap₂ (λ (rules : List Rule) (domains : List (List ℕ)). table_of rules config.users domains) c.as_slice.ensures c.as_slice-2.ensures
