-- Rules, and the first that decides (this project's profile).
use Rattle.std.specs.Prelude.{◌≡◌, ℕ, Bool, true, false, ◌&&◌, not, nat_lt, List, ◌∷◌, ◌++◌, Option, is_none}
use Rattle.std.specs.List.{list_any}
use Rattle.sip_uri.specs.declared.aor.Aor.{Aor}
use Rattle.sip_policy.specs.declared.who.Who.{Who}
use Rattle.sip_policy.specs.declared.who.Who.TheVariants.{Anyone}
use Rattle.sip_policy.specs.declared.operation.Operation.{Operation}
use Rattle.sip_policy.specs.declared.user.User.{User}
use Rattle.sip_policy.specs.declared.target_pattern.TargetPattern.{TargetPattern}
use Rattle.sip_policy.specs.declared.target_pattern.TargetPattern.TheVariants.{SelfTarget}
use Rattle.sip_policy.specs.declared.rule.Rule.{Rule}
use Rattle.sip_policy.specs.Window.{holds}
use Rattle.sip_policy.specs.Who.{matches_who}
use Rattle.sip_policy.specs.Operation.{matches_operation}
use Rattle.sip_policy.specs.TargetPattern.{matches_target}

-- whether the operation, the target and, where a user is proven, that user are of a rule's patterns
abbrev pub matches : List User → List (List ℕ) → Option (List ℕ) → Operation → Aor → Rule → Bool
matches users domains proven operation aor rule =
    matches_operation operation rule.operation && (matches_target users domains proven aor rule.target && matches_who users proven rule.who)

-- whether a rule decides about a request that comes at a minute of the day, unless one before it does: it holds then, whoever is
-- proven, and it matches
abbrev pub applies : List User → List (List ℕ) → Option (List ℕ) → Operation → Aor → ℕ → Rule → Bool
applies users domains proven operation aor minute rule = holds minute rule.window && matches users domains proven operation aor rule

-- whether a rule has no window
abbrev pub has_no_window : Rule → Bool
has_no_window rule = is_none rule.window

-- the first rule of a list that passes a test: none before it does
pub record IsFirst (test : Rule → Bool) (rules : List Rule) (rule : Rule) : Type 0 where
  pub before : List Rule
  pub after : List Rule
  pub split : rules ≡ before ++ rule ∷ after
  pub none_before : list_any test before ≡ false
  pub passes : test rule ≡ true

-- whether a rule has a number of its own, above 0
abbrev pub is_numbered : Rule → Bool
is_numbered rule = nat_lt 0 rule.id

-- whether a user pattern is `anyone`
abbrev pub is_anyone : Who → Bool
is_anyone Anyone = true
is_anyone who = false

-- whether a target pattern is `self`
abbrev pub is_self : TargetPattern → Bool
is_self SelfTarget = true
is_self target = false

-- whether a rule may be obeyed where nobody is proven: it is for anyone, and its target isn't `self`
abbrev pub needs_no_proof : Rule → Bool
needs_no_proof rule = is_anyone rule.who && not (is_self rule.target)
