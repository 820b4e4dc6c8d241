-- Configured users, their groups, and the own domains (this project's profile).
use Rattle.std.specs.Prelude.{ℕ, Bool, ◌&&◌, List}
use Rattle.std.specs.List.{list_any}
use Rattle.std.specs.Str.{bytes_eq}
use Rattle.sip_text.specs.Words.{is_same_text}
use Rattle.sip_uri.specs.declared.aor.Aor.{Aor}
use Rattle.sip_policy.specs.declared.user.User.{User}

-- whether a user has this name, byte by byte
abbrev pub is_named : List ℕ → User → Bool
is_named name user = bytes_eq user.name name

-- whether a name is a configured user's
abbrev pub is_users_name : List User → List ℕ → Bool
is_users_name users name = list_any (is_named name) users

-- whether the user of a name is in a group
abbrev pub is_in_group : List User → List ℕ → List ℕ → Bool
is_in_group users name group = list_any (λ user. is_named name user && list_any (bytes_eq group) user.groups) users

-- whether a host is an own domain; hosts are compared without case (RFC 3261 19.1.4)
abbrev pub is_own_domain : List (List ℕ) → List ℕ → Bool
is_own_domain domains host = list_any (λ domain. is_same_text domain host) domains

-- whether an address of record is a configured user's in an own domain
abbrev pub is_users_address : List User → List (List ℕ) → Aor → Bool
is_users_address users domains aor = is_own_domain domains aor.host && is_users_name users aor.user
