-- Hops and groups that no rule names.
use Rattle.std.specs.Prelude.{ℕ, Bool, false, if◌then◌else◌, List, [], ◌++◌, codes, Option, Some, None}
use Rattle.std.specs.List.{flat_map, list_any, slice_get}
use Rattle.std.specs.Str.{bytes_eq}
use Rattle.sip_hops.specs.declared.hop.Hop.{Hop}
use Rattle.sip_policy.specs.declared.rule.Rule.{Rule}
use Rattle.sip_policy.specs.declared.rule_verdict.RuleVerdict.{RuleVerdict}
use Rattle.sip_policy.specs.declared.user.User.{User}
use Rattle.sip_policy.specs.declared.who.Who.{Who}

abbrev pub hop_name : Option Hop → List ℕ
hop_name None = []
hop_name (Some hop) = hop.name

-- whether a verdict sends by the hop of a name
abbrev pub sends_by : List Hop → List ℕ → RuleVerdict → Bool
sends_by hops name RuleVerdict.Allow = false
sends_by hops name RuleVerdict.Deny = false
sends_by hops name (RuleVerdict.Via place) = bytes_eq (hop_name (slice_get hops place)) name

-- whether some rule does
abbrev pub is_sent_by : List Hop → List Rule → List ℕ → Bool
is_sent_by hops rules name = list_any (λ rule. sends_by hops name rule.verdict) rules

-- that none sends by a hop, unless one does
abbrev pub hop_line : List Hop → List Rule → Hop → List ℕ
hop_line hops rules hop = if is_sent_by hops rules hop.name then [] else codes "no rule sends by hop " ++ hop.name ++ codes "\n"

-- whether a rule's users are those of a group
abbrev pub is_of_group : List ℕ → Who → Bool
is_of_group group (Who.Group named) = bytes_eq group named
is_of_group group Who.Anyone = false
is_of_group group Who.Proven = false
is_of_group group (Who.User name) = false

-- whether some rule's are
abbrev pub is_named : List Rule → List ℕ → Bool
is_named rules group = list_any (λ rule. is_of_group group rule.who) rules

-- two names, and what stands before, between and behind them
abbrev pub names_text : List ℕ → List ℕ → List ℕ → List ℕ → List ℕ → List ℕ
names_text before one between other behind = before ++ one ++ between ++ other ++ behind

-- that no rule names a group of a user
abbrev pub group_text : List ℕ → List ℕ → List ℕ
group_text name group = names_text (codes "no rule names group ") group (codes " of ") name (codes "\n")

-- the same, unless one does
abbrev pub group_line : List Rule → List ℕ → List ℕ → List ℕ
group_line rules name group = if is_named rules group then [] else group_text name group

-- the same of all groups of a user
abbrev pub user_lines : List Rule → User → List ℕ
user_lines rules user = flat_map (group_line rules user.name) user.groups
