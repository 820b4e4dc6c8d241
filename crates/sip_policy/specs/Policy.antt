-- What decisions are made by.
use Rattle.std.specs.Prelude.{ℕ, List}
use Rattle.sip_policy.specs.declared.user.User.{User}
use Rattle.sip_policy.specs.declared.rule.Rule.{Rule}

-- rules in the order of the file, the users with their groups, and the own domains
pub record Policy : Type 0 where
  pub rules : List Rule
  pub users : List User
  pub domains : List (List ℕ)
