-- Columns of the table: classes of addresses of record, and which target patterns the addresses of one meet.
use Rattle.std.specs.Prelude.{ℕ, Bool, true, false, ◌&&◌, nat_eq, List}
use Rattle.std.specs.Bool.{beq}
use Rattle.std.specs.List.{list_all, starts_with}
use Rattle.std.specs.Str.{bytes_eq}
use Rattle.sip_text.specs.Words.{is_same_text}
use Rattle.sip_uri.specs.declared.aor.Aor.{Aor}
use Rattle.sip_policy.specs.declared.user.User.{User}
use Rattle.sip_policy.specs.declared.rule.Rule.{Rule}
use Rattle.sip_policy.specs.declared.target_pattern.TargetPattern.{TargetPattern}
use Rattle.sip_policy.specs.declared.target_pattern.TargetPattern.TheVariants.{Exact, Prefix, SelfTarget, Any}
use Rattle.sip_policy.specs.User.{is_users_address}
use Rattle.sip_matrix.specs.declared.column.Column.{Column}
use Rattle.sip_matrix.specs.declared.column.Column.TheVariants.{Named, Begins, Elsewhere}

-- whether the addresses of a column meet the pattern of one address
abbrev pub meets_exact : Column → List ℕ → List ℕ → Bool
meets_exact (Named aor) user domain = bytes_eq aor.user user && is_same_text aor.host domain
meets_exact (Begins aor) user domain = false
meets_exact Elsewhere user domain = false

-- whether they meet the pattern of a prefix
abbrev pub meets_prefix : Column → List ℕ → List ℕ → Bool
meets_prefix (Named aor) prefix domain = starts_with nat_eq aor.user prefix && is_same_text aor.host domain
meets_prefix (Begins aor) prefix domain = starts_with nat_eq aor.user prefix && is_same_text aor.host domain
meets_prefix Elsewhere prefix domain = false

-- whether they meet a target pattern, `self` where they are the asker's own
abbrev pub meets : Bool → Column → TargetPattern → Bool
meets own column (Exact user domain) = meets_exact column user domain
meets own column (Prefix prefix domain) = meets_prefix column prefix domain
meets own column SelfTarget = own
meets own column Any = true

-- whether they are a configured user's in an own domain
abbrev pub is_known : List User → List (List ℕ) → Column → Bool
is_known users domains (Named aor) = is_users_address users domains aor
is_known users domains (Begins aor) = false
is_known users domains Elsewhere = false

-- whether the addresses of two columns meet the same rules' target patterns, and are known alike
abbrev pub are_asked_alike : List Rule → List User → List (List ℕ) → Column → Column → Bool
are_asked_alike rules users domains one other =
    beq (is_known users domains one) (is_known users domains other)
    && list_all (λ rule. beq (meets false one rule.target) (meets false other rule.target)) rules

-- whether two addresses are the same, the user byte by byte and the host without case
abbrev pub is_same_address : Aor → Aor → Bool
is_same_address one other = bytes_eq one.user other.user && is_same_text one.host other.host

-- whether two columns have the same addresses by their form
abbrev pub is_same_column : Column → Column → Bool
is_same_column (Named one) (Named other) = is_same_address one other
is_same_column (Begins one) (Begins other) = is_same_address one other
is_same_column Elsewhere Elsewhere = true
is_same_column one other = false
