-- What is told of changes of the sample configuration.
use Rattle.std.specs.Prelude.{ℕ, List, [], ◌∷◌, codes, map, Some}
use Rattle.sip_policy.specs.declared.rule.Rule.{Rule}
use Rattle.sip_policy.specs.declared.rule_verdict.RuleVerdict.{RuleVerdict}
use Rattle.sip_policy.specs.declared.user.User.{User}
use Rattle.sip_policy.specs.Examples.{user_of, mufasas_a1, rule_1, rule_2, rule_3, rule_4, rule_5, rule_6}
use Rattle.sip_hops.specs.declared.hop.Hop.{Hop}
use Rattle.sip_hops.specs.declared.host_address.HostAddress.{HostAddress}
use Rattle.sip_hops.specs.Examples.{local}
use Rattle.sip_config_types.specs.declared.config.Config.{Config}
use Rattle.sip_config_types.specs.Sample.{sample}
use Rattle.sipd_changes.specs.Changes.{changes_of}
use Rattle.sipd_changes.specs.Telling as Text
use Rattle.sipd_changes.specs.Summary.{summed_up}

-- what is told where the sample becomes another configuration
abbrev pub told_of : Config → List ℕ
told_of new = Text.told (changes_of sample new)

-- and what is said of that in a few words
abbrev pub summed_of : Config → List ℕ
summed_of new = summed_up (changes_of sample new)

-- with other users
abbrev pub with_users : List User → Config
with_users users = record sample { users = users }

-- the sample's users in another order, of whom alice has another `a1`, and `a1_sha256` now, and help is in the group `staff`
abbrev pub same_names : List User
same_names =
    record (user_of (codes "alice") (codes "33333333333333333333333333333333") []) {
      a1_sha256 = Some (codes "4444444444444444444444444444444444444444444444444444444444444444");
    }
    ∷ user_of (codes "help") (codes "22222222222222222222222222222222") (codes "staff" ∷ [])
    ∷ user_of (codes "Mufasa") mufasas_a1 (codes "staff" ∷ [])
    ∷ []

-- Mufasa without a group, alice, and zazu, who is new; nobody is called help
abbrev pub zazu_for_help : List User
zazu_for_help =
    user_of (codes "Mufasa") mufasas_a1 []
    ∷ user_of (codes "alice") (codes "11111111111111111111111111111111") []
    ∷ user_of (codes "zazu") (codes "55555555555555555555555555555555") []
    ∷ []

-- with other rules
abbrev pub with_rules : List Rule → Config
with_rules rules = record sample { rules = rules }

-- `gw` stands behind another hop now
abbrev pub far_first : List Hop
far_first = record { name = codes "far"; address = local 5095 } ∷ record { name = codes "gw"; address = local 5090 } ∷ []

-- rule 5 by the second hop, which is the same as before
abbrev pub by_second : Rule
by_second = record rule_5 { verdict = RuleVerdict.Via 1 }

-- `PC.host.com`, port 5060: 127.0.0.1 and a port
abbrev pub pc_at : ℕ → List HostAddress
pc_at port = record { host = codes "PC.host.com"; port = 5060; address = local port } ∷ []

-- the sample's rules, and behind them more of these numbers
abbrev pub and_numbers : List ℕ → List Rule
and_numbers ids = rule_1 ∷ rule_2 ∷ rule_3 ∷ rule_4 ∷ rule_5 ∷ rule_6 ∷ map (λ id. record rule_6 { id = id }) ids

-- twelve numbers
abbrev pub twelve : List ℕ
twelve = 7 ∷ 8 ∷ 9 ∷ 10 ∷ 11 ∷ 12 ∷ 13 ∷ 14 ∷ 15 ∷ 16 ∷ 17 ∷ 18 ∷ []

-- another realm and another address, at which another port is bound
abbrev pub moved : Config
moved = record sample { own = record sample.own { ip = 127 ∷ 0 ∷ 0 ∷ 2 ∷ [] }; bound_port = 5070; realm = codes "office" }
