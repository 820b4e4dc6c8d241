-- The cells of two configurations together: their common refinement, in each of which both decide.
use Rattle.std.specs.Prelude.{ℕ, Bool, true, false, not, ◌&&◌, ◌||◌, if◌then◌else◌, List, ◌++◌, Option, Some, None}
use Rattle.std.specs.Bool.{beq}
use Rattle.std.specs.Str.{bytes_eq}
use Rattle.sip_uri.specs.declared.aor.Aor.{Aor}
use Rattle.sip_policy.specs.declared.user.User.{User}
use Rattle.sip_policy.specs.declared.rule.Rule.{Rule}
use Rattle.sip_policy.specs.User.{is_own_domain, is_users_name}
use Rattle.sip_config_types.specs.declared.config.Config.{Config}
use Rattle.sip_matrix.specs.declared.column.Column.{Column}
use Rattle.sip_matrix.specs.declared.table.PolicyTable.{PolicyTable}
use Rattle.sip_matrix.specs.Address as Address
use Rattle.sip_matrix.specs.Asker.{ask_alike, names_of}
use Rattle.sip_matrix.specs.Column.{are_asked_alike}
use Rattle.sip_matrix.specs.Day as Day
use Rattle.sip_matrix.specs.Kinds.{kinds_of}
use Rattle.sip_matrix.specs.Table as Tables

-- ---- both together

abbrev pub rules_of : Config → Config → List Rule
rules_of old new = old.rules ++ new.rules

abbrev pub users_of : Config → Config → List User
users_of old new = old.users ++ new.users

abbrev pub domains_of : Config → Config → List (List ℕ)
domains_of old new = old.own.domains ++ new.own.domains

-- ---- who asks

-- who is proven to a configuration: one of its users; anybody else can't prove to be one, and is nobody there
abbrev pub proven_to : Config → Option (List ℕ) → Option (List ℕ)
proven_to config None = None
proven_to config (Some name) = if is_users_name config.users name then Some name else None

-- whether two users ask alike of a configuration: both are its own or none is, and each rule is for both or for neither
abbrev pub ask_alike_of : Config → List ℕ → List ℕ → Bool
ask_alike_of config one other = beq (is_users_name config.users one) (is_users_name config.users other) && ask_alike config.rules config.users one other

-- and of both
abbrev pub ask_alike_of_both : Config → Config → List ℕ → List ℕ → Bool
ask_alike_of_both old new one other = ask_alike_of old one other && ask_alike_of new one other

-- whether who asks is of a row: nobody, and who is a user of neither, of nobody's; a user of that of a user who asks alike
abbrev pub is_in_row : Config → Config → Option (List ℕ) → Option (List ℕ) → Bool
is_in_row old new None None = true
is_in_row old new None (Some row) = false
is_in_row old new (Some name) None = not (is_users_name (users_of old new) name)
is_in_row old new (Some name) (Some row) = ask_alike_of_both old new name row

-- ---- what is asked for

-- whether two columns are asked about alike by both
abbrev pub are_asked_alike_by_both : Config → Config → Column → Column → Bool
are_asked_alike_by_both old new one other =
    are_asked_alike old.rules old.users old.own.domains one other && are_asked_alike new.rules new.users new.own.domains one other

-- the column of an address, where the targets, the users and the own domains of both tell addresses apart
abbrev pub column_of : Config → Config → Aor → Column
column_of old new aor = Address.column_of (rules_of old new) (users_of old new) (domains_of old new) aor

-- whether a host is an own domain of one of both, and whether a name is a user's of one
abbrev pub is_host_of_both : Config → Config → List ℕ → Bool
is_host_of_both old new host = is_own_domain old.own.domains host || is_own_domain new.own.domains host

abbrev pub is_name_of_both : Config → Config → List ℕ → Bool
is_name_of_both old new name = is_users_name old.users name || is_users_name new.users name

-- whether an address is a user's in an own domain, where both have users and own domains
abbrev pub is_users_address_of_both : Config → Config → Aor → Bool
is_users_address_of_both old new aor = is_host_of_both old new aor.host && is_name_of_both old new aor.user

-- whether a user asks for his own address
abbrev pub asks_own : Config → Config → Option (List ℕ) → Aor → Bool
asks_own old new None aor = false
asks_own old new (Some name) aor = is_users_address_of_both old new aor && bytes_eq aor.user name

-- ---- when

-- the piece of the day of a minute, by the windows of both
abbrev pub piece_of : Config → Config → ℕ → ℕ
piece_of old new minute = Day.piece_of (rules_of old new) minute

-- ---- the whole

abbrev pub all_columns : Config → Config → List Column
all_columns old new = Tables.all_columns (rules_of old new) (users_of old new) (domains_of old new)

-- the table of both
abbrev pub table_of : Config → Config → PolicyTable
table_of old new =
    record {
      rows = kinds_of (ask_alike_of_both old new) (names_of (users_of old new));
      columns = Tables.columns_of (rules_of old new) (users_of old new) (domains_of old new);
      classes = kinds_of (are_asked_alike_by_both old new) (all_columns old new);
      pieces = Day.pieces_of (rules_of old new);
    }
