-- Target patterns (this project's profile). An address is compared unescaped, its user byte by byte and its host without case; a
-- pattern is the text itself.
use Rattle.std.specs.Prelude.{ℕ, Bool, true, ◌&&◌, nat_eq, List, Option, Some, None}
use Rattle.std.specs.List.{starts_with}
use Rattle.std.specs.Str.{bytes_eq}
use Rattle.sip_text.specs.Words.{is_same_text}
use Rattle.sip_uri.specs.declared.aor.Aor.{Aor}
use Rattle.sip_policy.specs.declared.user.User.{User}
use Rattle.sip_policy.specs.declared.target_pattern.TargetPattern.{TargetPattern}
use Rattle.sip_policy.specs.declared.target_pattern.TargetPattern.TheVariants.{Exact, Prefix, SelfTarget, Any}
use Rattle.sip_policy.specs.User.{is_own_domain, is_users_name}

-- whether a user part is the one who asks: the proven user's name, or with nobody proven any configured user's
abbrev pub is_own_name : List User → Option (List ℕ) → List ℕ → Bool
is_own_name users (Some name) user = bytes_eq user name
is_own_name users None user = is_users_name users user

-- whether an address of record is of a pattern
abbrev pub matches_target : List User → List (List ℕ) → Option (List ℕ) → Aor → TargetPattern → Bool
matches_target users domains proven aor (Exact user domain) = bytes_eq aor.user user && is_same_text aor.host domain
matches_target users domains proven aor (Prefix prefix domain) = starts_with nat_eq aor.user prefix && is_same_text aor.host domain
matches_target users domains proven aor SelfTarget = is_own_domain domains aor.host && is_own_name users proven aor.user
matches_target users domains proven aor Any = true
