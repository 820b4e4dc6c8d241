-- The table of the sample configuration for INVITE and for register, as text, and the numbers of its rules.
use Rattle.std.specs.Prelude.{ℕ, List, [], ◌∷◌, codes}
use Rattle.sip_policy.specs.declared.operation.Operation.{Operation}
use Rattle.sip_policy.specs.declared.user.User.{User}
use Rattle.sip_policy.specs.Examples.{mufasas_a1, rule_3, user_of}
use Rattle.sip_config_types.specs.declared.config.Config.{Config}
use Rattle.sip_config_types.specs.Sample.{sample}
use Rattle.sipd_matrix.specs.Cells.{numbers_of_row}
use Rattle.sipd_matrix.specs.Text.{class_line}
use Rattle.sip_matrix.specs.declared.column.Column.{Column}
use Rattle.sip_matrix.specs.Table.{table_of}

-- the line of a class of the sample's table, in the piece from midnight
abbrev pub sample_line : Operation → Column → List ℕ
sample_line operation class = class_line sample operation (table_of sample.rules sample.users sample.own.domains) 0 class

-- the numbers of the rules that decide in the cell of a row of users and a class, in that piece
abbrev pub numbers_in : Config → Operation → Column → List ℕ → List ℕ
numbers_in config operation class row =
    numbers_of_row config operation (table_of config.rules config.users config.own.domains).columns class 0 row

abbrev pub sample_numbers : Operation → Column → List ℕ → List ℕ
sample_numbers operation class row = numbers_in sample operation class row

-- the sample with its third rule alone, which is for anyone and denies
abbrev pub sample_with_a_denial : Config
sample_with_a_denial = record sample { rules = rule_3 ∷ [] }

-- the sample with Mufasa alone
abbrev pub mufasa_alone : List User
mufasa_alone = user_of (codes "Mufasa") mufasas_a1 (codes "staff" ∷ []) ∷ []

abbrev pub sample_of_mufasa : Config
sample_of_mufasa = record sample { users = mufasa_alone }
