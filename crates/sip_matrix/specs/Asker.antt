-- Rows of the table: who asks, by classes of users that the same rules are for.
use Rattle.std.specs.Prelude.{ℕ, Bool, true, false, ◌&&◌, List, map, Option, Some, None}
use Rattle.std.specs.Bool.{beq}
use Rattle.std.specs.List.{list_all}
use Rattle.sip_uri.specs.declared.aor.Aor.{Aor}
use Rattle.sip_policy.specs.declared.user.User.{User}
use Rattle.sip_policy.specs.declared.rule.Rule.{Rule}
use Rattle.sip_policy.specs.User.{is_own_domain}
use Rattle.sip_policy.specs.Who.{matches_who}
use Rattle.sip_policy.specs.TargetPattern.{is_own_name}
use Rattle.sip_matrix.specs.Kinds.{kinds_of}

-- whether each rule is for both of two users, or for neither
abbrev pub ask_alike : List Rule → List User → List ℕ → List ℕ → Bool
ask_alike rules users one other = list_all (λ rule. beq (matches_who users (Some one) rule.who) (matches_who users (Some other) rule.who)) rules

-- whether who asks is of a row: nobody of nobody's, a user of that of a user who asks alike
abbrev pub is_in_row : List Rule → List User → Option (List ℕ) → Option (List ℕ) → Bool
is_in_row rules users None None = true
is_in_row rules users None (Some row) = false
is_in_row rules users (Some name) None = false
is_in_row rules users (Some name) (Some row) = ask_alike rules users name row

abbrev pub names_of : List User → List (List ℕ)
names_of users = map (λ user. user.name) users

-- the rows of users, each by the name of the first
abbrev pub rows_of : List Rule → List User → List (List ℕ)
rows_of rules users = kinds_of (ask_alike rules users) (names_of users)

-- whether an address of record is the asker's own, as `self` means it
abbrev pub is_own : List User → List (List ℕ) → Option (List ℕ) → Aor → Bool
is_own users domains proven aor = is_own_domain domains aor.host && is_own_name users proven aor.user
