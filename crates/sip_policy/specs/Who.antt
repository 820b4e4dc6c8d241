-- User patterns (this project's profile).
use Rattle.std.specs.Prelude.{ℕ, Bool, true, List, Option, Some, None}
use Rattle.std.specs.Str.{bytes_eq}
use Rattle.sip_policy.specs.declared.who.Who.{Who}
use Rattle.sip_policy.specs.declared.who.Who.TheVariants.{Anyone, Proven, Group}
use Rattle.sip_policy.specs.declared.user.User.{User}
use Rattle.sip_policy.specs.User.{is_in_group}

-- whether a proven user is of a pattern; with nobody proven the pattern isn't looked at, since who asks may be any user
abbrev pub matches_who : List User → Option (List ℕ) → Who → Bool
matches_who users None who = true
matches_who users (Some name) Anyone = true
matches_who users (Some name) Proven = true
matches_who users (Some name) (Who.User wanted) = bytes_eq name wanted
matches_who users (Some name) (Group group) = is_in_group users name group
