-- What changes from the sample configuration.
use Rattle.std.specs.Prelude.{ℕ, List, [], ◌∷◌, codes}
use Rattle.sip_policy.specs.declared.operation.Operation.{Operation}
use Rattle.sip_policy.specs.declared.rule.Rule.{Rule}
use Rattle.sip_policy.specs.declared.target_pattern.TargetPattern.TheVariants as Target
use Rattle.sip_policy.specs.declared.user.User.{User}
use Rattle.sip_policy.specs.Examples.{by_day, mufasas_a1, rule_1, rule_2, rule_3, rule_4, rule_5, rule_6, rules_with, user_of}
use Rattle.sip_config_types.specs.declared.config.Config.{Config}
use Rattle.sip_config_types.specs.Sample.{sample}
use Rattle.sip_matrix.specs.declared.column.Column.{Column}
use Rattle.sipd_matrix_changes.specs.Both.{table_of}
use Rattle.sipd_matrix_changes.specs.Lines.{class_lines}

-- the sample, where rule 4 holds by day alone
abbrev pub sample_by_day : Config
sample_by_day = record sample { rules = rules_with by_day }

-- the sample without alice
abbrev pub users_without_alice : List User
users_without_alice = user_of (codes "Mufasa") mufasas_a1 (codes "staff" ∷ []) ∷ user_of (codes "help") (codes "22222222222222222222222222222222") [] ∷ []

abbrev pub sample_without_alice : Config
sample_without_alice = record sample { users = users_without_alice }

-- the sample, whose rule 3 denies calls to Mufasa
abbrev pub rules_against_mufasa : List Rule
rules_against_mufasa =
    rule_1 ∷ rule_2 ∷ record rule_3 { target = Target.Exact (codes "Mufasa") (codes "host.com") } ∷ rule_4 ∷ rule_5 ∷ rule_6 ∷ []

abbrev pub sample_against_mufasa : Config
sample_against_mufasa = record sample { rules = rules_against_mufasa }

-- what changes for a class from the sample, in a piece of the day
abbrev pub changed : Config → Operation → ℕ → Column → List ℕ
changed new operation piece class = class_lines sample new operation (table_of sample new) piece class
