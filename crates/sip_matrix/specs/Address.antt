-- The column of each address of record.
use Rattle.std.specs.Prelude.{ℕ, Bool, false, ◌&&◌, ◌||◌, nat_eq, if◌then◌else◌, List, [], ◌∷◌}
use Rattle.std.specs.List.{list_any, starts_with}
use Rattle.std.specs.Str.{bytes_eq}
use Rattle.sip_text.specs.Words.{is_same_text}
use Rattle.sip_uri.specs.declared.aor.Aor.{Aor}
use Rattle.sip_policy.specs.declared.user.User.{User}
use Rattle.sip_policy.specs.declared.rule.Rule.{Rule}
use Rattle.sip_policy.specs.declared.target_pattern.TargetPattern.{TargetPattern}
use Rattle.sip_policy.specs.declared.target_pattern.TargetPattern.TheVariants.{Exact, Prefix, SelfTarget, Any}
use Rattle.sip_policy.specs.User.{is_own_domain, is_users_address}
use Rattle.sip_matrix.specs.declared.column.Column.{Column}
use Rattle.sip_matrix.specs.declared.column.Column.TheVariants.{Named, Begins, Elsewhere}

-- whether a target pattern is of a host
abbrev pub names_host : List ℕ → TargetPattern → Bool
names_host host (Exact user domain) = is_same_text host domain
names_host host (Prefix prefix domain) = is_same_text host domain
names_host host SelfTarget = false
names_host host Any = false

-- whether a host counts: it is an own domain, or some rule's target is of it
abbrev pub counts : List Rule → List (List ℕ) → List ℕ → Bool
counts rules domains host = is_own_domain domains host || list_any (λ rule. names_host host rule.target) rules

-- whether a target pattern is that of this address
abbrev pub names_address : Aor → TargetPattern → Bool
names_address aor (Exact user domain) = bytes_eq aor.user user && is_same_text aor.host domain
names_address aor (Prefix prefix domain) = false
names_address aor SelfTarget = false
names_address aor Any = false

-- whether an address is named: it is a configured user's in an own domain, or some rule's target is that of this address
abbrev pub has_name : List Rule → List User → List (List ℕ) → Aor → Bool
has_name rules users domains aor = is_users_address users domains aor || list_any (λ rule. names_address aor rule.target) rules

-- the longer of a front of an address's user part and the prefix of a pattern that the address meets; of two fronts of one text the
-- longer begins with the other
abbrev pub longer_front : Aor → List ℕ → TargetPattern → List ℕ
longer_front aor front (Exact user domain) = front
longer_front aor front (Prefix prefix domain) =
    if (starts_with nat_eq aor.user prefix && is_same_text aor.host domain) && starts_with nat_eq prefix front then prefix else front
longer_front aor front SelfTarget = front
longer_front aor front Any = front

-- the longest prefix of the rules' patterns that an address meets
abbrev pub longest_front : List Rule → Aor → List ℕ
longest_front [] aor = []
longest_front (rule ∷ rules) aor = longer_front aor (longest_front rules aor) rule.target

-- the column of an address: itself where it is named, else what begins with the same longest prefix at its host; all addresses at hosts
-- that don't count have one
abbrev pub column_of : List Rule → List User → List (List ℕ) → Aor → Column
column_of rules users domains aor =
    if counts rules domains aor.host then
    (if has_name rules users domains aor then Named aor else Begins (record { user = longest_front rules aor; host = aor.host }))
    else Elsewhere
