use Rattle.std.proofs.Common.{ℕ, List, ◌++◌, ◌∙◌, ap₂}
use Rattle.sip_policy.specs.declared.operation.Operation.{Operation}
use Rattle.sipd_matrix_forms.specs.declared.html.Level.TheVariants.{Section}
use Rattle.sipd_matrix_forms.specs.Html.{policy_text}
use Rattle.sipd_page_sections.proofs.told.policy_of.Goals as goal

pub returns : goal.returns
returns c =
    c.in_ok-put_policy.ensures
    ∙ ap₂ (λ (old name : List ℕ). old ++ policy_text Section c.args.config.now (Operation.Send name)) c.new-policy.ensures c.in_ok-copy.ensures
