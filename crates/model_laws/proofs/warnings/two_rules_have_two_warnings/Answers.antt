use Rattle.std.proofs.lemmas.List.Elements.{Contains-push}
use Rattle.sip_edit_response.specs.Extras.{denial_warning}
use Rattle.model_laws.proofs.RuleNumbers.{same_rule}
use Rattle.model_laws.proofs.warnings.two_rules_have_two_warnings.Goals as goal

pub returns-clause-differ : goal.returns-clause-differ
returns-clause-differ c = same_rule

pub returns-clause-told : goal.returns-clause-told
returns-clause-told c = λ server number m from rule. Contains-push _ (denial_warning server.config.own rule)
