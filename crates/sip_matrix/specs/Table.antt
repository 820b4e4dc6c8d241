-- The table of a list of rules: its rows, its columns and the pieces of its day.
use Rattle.std.specs.Prelude.{ℕ, List, [], ◌∷◌, ◌++◌, map}
use Rattle.std.specs.List.{flat_map}
use Rattle.sip_policy.specs.declared.user.User.{User}
use Rattle.sip_policy.specs.declared.rule.Rule.{Rule}
use Rattle.sip_policy.specs.declared.target_pattern.TargetPattern.{TargetPattern}
use Rattle.sip_policy.specs.declared.target_pattern.TargetPattern.TheVariants.{Exact, Prefix, SelfTarget, Any}
use Rattle.sip_matrix.specs.declared.column.Column.{Column}
use Rattle.sip_matrix.specs.declared.column.Column.TheVariants.{Named, Begins, Elsewhere}
use Rattle.sip_matrix.specs.declared.table.PolicyTable.{PolicyTable}
use Rattle.sip_matrix.specs.Kinds.{kinds_of}
use Rattle.sip_matrix.specs.Asker.{rows_of}
use Rattle.sip_matrix.specs.Column.{are_asked_alike, is_same_column}
use Rattle.sip_matrix.specs.Day.{pieces_of}

-- one address
abbrev pub named : List ℕ → List ℕ → Column
named user host = Named (record { user = user; host = host })

-- what begins so at a host
abbrev pub begins : List ℕ → List ℕ → Column
begins front host = Begins (record { user = front; host = host })

-- the columns that a target pattern makes: the address or the prefix, and what begins with no prefix at its host
abbrev pub columns_of_target : TargetPattern → List Column
columns_of_target (Exact user domain) = named user domain ∷ begins [] domain ∷ []
columns_of_target (Prefix prefix domain) = begins prefix domain ∷ begins [] domain ∷ []
columns_of_target SelfTarget = []
columns_of_target Any = []

-- the columns that an own domain makes: each user's address, and what begins with no prefix
abbrev pub columns_of_domain : List User → List ℕ → List Column
columns_of_domain users domain = map (λ user. named user.name domain) users ++ begins [] domain ∷ []

-- all columns, some of them more than once
abbrev pub all_columns : List Rule → List User → List (List ℕ) → List Column
all_columns rules users domains =
    flat_map (columns_of_domain users) domains ++ flat_map (λ rule. columns_of_target rule.target) rules ++ Elsewhere ∷ []

-- each column once
abbrev pub columns_of : List Rule → List User → List (List ℕ) → List Column
columns_of rules users domains = kinds_of is_same_column (all_columns rules users domains)

-- the classes of columns in which the same is decided, each by its first
abbrev pub classes_of : List Rule → List User → List (List ℕ) → List Column
classes_of rules users domains = kinds_of (are_asked_alike rules users domains) (all_columns rules users domains)

-- the table of rules, users and own domains
abbrev pub table_of : List Rule → List User → List (List ℕ) → PolicyTable
table_of rules users domains =
    record {
      rows = rows_of rules users;
      columns = columns_of rules users domains;
      classes = classes_of rules users domains;
      pieces = pieces_of rules;
    }
