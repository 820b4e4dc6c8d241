-- An address for each column, about which is decided what is decided about all addresses of the column. None of them is named by a rule.
use Rattle.std.specs.Prelude.{ℕ, Bool, true, not, ◌&&◌, ◌==◌, List, [], ◌∷◌, ◌++◌, codes}
use Rattle.std.specs.List.{list_all, list_any, flat_map}
use Rattle.std.specs.Str.{byte, bytes_eq}
use Rattle.sip_uri.specs.declared.aor.Aor.{Aor}
use Rattle.sip_policy.specs.declared.operation.Operation.{Operation}
use Rattle.sip_policy.specs.declared.operation.OperationPattern.{OperationPattern}
use Rattle.sip_policy.specs.declared.operation.OperationPattern.TheVariants as Pattern
use Rattle.sip_policy.specs.declared.target_pattern.TargetPattern.{TargetPattern}
use Rattle.sip_policy.specs.declared.target_pattern.TargetPattern.TheVariants.{Exact, Prefix, SelfTarget, Any}
use Rattle.sip_policy.specs.declared.user.User.{User}
use Rattle.sip_policy.specs.declared.rule.Rule.{Rule}
use Rattle.sip_policy.specs.User.{is_own_domain}
use Rattle.sip_matrix.specs.declared.column.Column.{Column}
use Rattle.sip_matrix.specs.declared.column.Column.TheVariants.{Named, Begins, Elsewhere}
use Rattle.sip_matrix.specs.Address.{names_host}

-- ---- addresses

-- a host that no network has (RFC 2606 2)
abbrev pub other_host : List ℕ
other_host = codes "elsewhere.invalid"

-- the address of a column: itself; what begins so, and goes on with a `*`, which no text of a rule has; one at another host
abbrev pub example_of : Column → Aor
example_of (Named aor) = aor
example_of (Begins aor) = record { user = aor.user ++ codes "*"; host = aor.host }
example_of Elsewhere = record { user = codes "*"; host = other_host }

-- ---- operations

-- the method that a rule names
abbrev pub named_by : OperationPattern → List Operation
named_by Pattern.Register = []
named_by Pattern.List = []
named_by (Pattern.Send method) = Operation.Send method ∷ []
named_by Pattern.SendAny = []

-- the operations of a pattern, as far as rules tell them apart: of `send *` each method that a rule names, and the method `*`, which none
-- does
abbrev pub operations_of : OperationPattern → List Rule → List Operation
operations_of Pattern.Register rules = Operation.Register ∷ []
operations_of Pattern.List rules = Operation.List ∷ []
operations_of (Pattern.Send method) rules = Operation.Send method ∷ []
operations_of Pattern.SendAny rules = Operation.Send (codes "*") ∷ flat_map (λ rule. named_by rule.operation) rules

-- ---- where these are examples

-- whether a text has a `*`
abbrev pub has_star : List ℕ → Bool
has_star text = list_any (λ b. b == byte "*") text

-- whether the user part of a target pattern has none
abbrev pub is_plain_target : TargetPattern → Bool
is_plain_target (Exact user domain) = not (has_star user)
is_plain_target (Prefix prefix domain) = not (has_star prefix)
is_plain_target SelfTarget = true
is_plain_target Any = true

-- whether an operation pattern names another method than `*`
abbrev pub is_plain_operation : OperationPattern → Bool
is_plain_operation Pattern.Register = true
is_plain_operation Pattern.List = true
is_plain_operation (Pattern.Send method) = not (bytes_eq (codes "*") method)
is_plain_operation Pattern.SendAny = true

-- whether a rule has no `*` in a text, and isn't of that other host
abbrev pub is_plain_rule : Rule → Bool
is_plain_rule rule = not (names_host other_host rule.target) && (is_plain_target rule.target && is_plain_operation rule.operation)

-- the same of rules, users and own domains; a text of a configuration that is read has no `*`
abbrev pub are_plain : List Rule → List User → List (List ℕ) → Bool
are_plain rules users domains =
    not (is_own_domain domains other_host) && (not (list_any (λ user. has_star user.name) users) && list_all is_plain_rule rules)
