-- What is decided by two configurations about a question, and in a cell of both.
use Rattle.std.specs.Prelude.{ℕ, Bool, false, not, ◌&&◌, ◌||◌, is_none, List, Option, Some, None}
use Rattle.std.specs.Bool.{beq}
use Rattle.std.specs.List.{list_any}
use Rattle.std.specs.Str.{bytes_eq}
use Rattle.sip_uri.specs.declared.aor.Aor.{Aor}
use Rattle.sip_policy.specs.declared.operation.Operation.{Operation}
use Rattle.sip_policy.specs.declared.user.User.{User}
use Rattle.sip_policy.specs.Decision.{decision_of}
use Rattle.sip_policy.specs.User.{is_users_address}
use Rattle.sip_config_types.specs.declared.config.Config.{Config}
use Rattle.sip_matrix.specs.declared.column.Column.{Column}
use Rattle.sip_matrix.specs.declared.column.Column.TheVariants.{Named, Begins, Elsewhere}
use Rattle.sipd_matrix.specs.Cells.{are_known, mark_at, mark_of}
use Rattle.sipd_matrix_changes.specs.Both.{are_asked_alike_by_both, ask_alike_of_both, asks_own, proven_to}

-- ---- a question

-- what a configuration makes of a question, as a sign of the table: where it goes, by which hop, or that it is denied or asked for a proof
abbrev pub decided : Config → Operation → Option (List ℕ) → Aor → ℕ → List ℕ
decided config operation proven aor minute =
    mark_of operation config.hops (is_users_address config.users config.own.domains aor)
    (decision_of config.rules config.users config.own.domains (proven_to config proven) operation aor minute)

-- whether two make something else of it
abbrev pub is_changed : Config → Config → Operation → Option (List ℕ) → Aor → ℕ → Bool
is_changed old new operation proven aor minute = not (bytes_eq (decided old operation proven aor minute) (decided new operation proven aor minute))

-- ---- a cell

-- whether `self` means the addresses of a cell: they are users', and the asker's own or, where nobody is proven, anybody's
abbrev pub own_to : Config → Option (List ℕ) → Column → Bool → Bool
own_to config row class own = are_known config class && (own || is_none (proven_to config row))

-- what a configuration makes of the questions of a cell
abbrev pub decided_in : Config → Operation → Option (List ℕ) → Column → Bool → ℕ → List ℕ
decided_in config operation row class own piece = mark_at config operation (proven_to config row) class (own_to config row class own) piece

-- whether two make something else of them
abbrev pub is_changed_in : Config → Config → Operation → Option (List ℕ) → Column → Bool → ℕ → Bool
is_changed_in old new operation row class own piece =
    not (bytes_eq (decided_in old operation row class own piece) (decided_in new operation row class own piece))

-- ---- which cells have questions

-- whether a user of a name asks for his own address, in a column
abbrev pub owns_column : Config → Config → List ℕ → Column → Bool
owns_column old new name (Named aor) = asks_own old new (Some name) aor
owns_column old new name (Begins aor) = false
owns_column old new name Elsewhere = false

-- whether a class has a column in which he asks for his own address, or for another
abbrev pub has_column : Config → Config → List Column → Column → Bool → List ℕ → Bool
has_column old new columns class own name =
    list_any (λ column. are_asked_alike_by_both old new class column && beq (owns_column old new name column) own) columns

-- whether some of these users does, who asks as a row does
abbrev pub has_asker : Config → Config → List Column → List ℕ → Column → Bool → List User → Bool
has_asker old new columns row class own users =
    list_any (λ user. ask_alike_of_both old new row user.name && has_column old new columns class own user.name) users

-- whether a cell has questions; who is nobody has no address of his own
abbrev pub has_question : Config → Config → List Column → Option (List ℕ) → Column → Bool → Bool
has_question old new columns None class own = not own
has_question old new columns (Some row) class own =
    has_asker old new columns row class own old.users || has_asker old new columns row class own new.users

-- whether a cell is told: it has questions, of which something else is made
abbrev pub is_told : Config → Config → Operation → List Column → ℕ → Column → Option (List ℕ) → Bool → Bool
is_told old new operation columns piece class row own = has_question old new columns row class own && is_changed_in old new operation row class own piece
