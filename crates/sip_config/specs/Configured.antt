-- What holds of every configuration that a file states.
use Rattle.std.specs.Prelude.{◌≡◌, ℕ, ◌≤◌, Bool, true, ◌&&◌, ◌==◌, not, nat_le, nat_lt, List, [], ◌∷◌, length, map}
use Rattle.std.specs.List.{list_all, list_any}
use Rattle.sip_uri.specs.Host.{is_host}
use Rattle.sip_hops.specs.declared.hop.Hop.{Hop}
use Rattle.sip_policy.specs.declared.user.User.{User}
use Rattle.sip_policy.specs.declared.rule.Rule.{Rule}
use Rattle.sip_policy.specs.declared.rule_verdict.RuleVerdict.{RuleVerdict}
use Rattle.sip_policy.specs.Rule.{is_numbered}
use Rattle.sip_policy.specs.Users.{have_own_names}
use Rattle.sip_config_types.specs.declared.config.Config.{Config}
use Rattle.sip_config_values.specs.Grammar.{is_realm, is_host_name, is_own_host_name, is_name}
use Rattle.sip_config.specs.Rules.{names_known_group}

-- whether no number stands twice
abbrev pub numbers_differ : List ℕ → Bool
numbers_differ [] = true
numbers_differ (n ∷ ns) = not (list_any (λ other. n == other) ns) && numbers_differ ns

abbrev pub ids_of : List Rule → List ℕ
ids_of rules = map (λ rule. rule.id) rules

-- whether the hop of a verdict, if it names one, is one of so many
abbrev pub is_hop_below : ℕ → RuleVerdict → Bool
is_hop_below count (RuleVerdict.Via place) = nat_lt place count
is_hop_below count verdict = true

abbrev pub names_known_hop : List Hop → Rule → Bool
names_known_hop hops rule = is_hop_below (length hops) rule.verdict

-- No two users have one name and no two rules one number; rules have numbers above 0, and name hops and groups that are configured.
pub record IsConfigured (config : Config) : Type 0 where
  pub names_differ : have_own_names config.users ≡ true
  pub ids_differ : numbers_differ (ids_of config.rules) ≡ true
  pub numbered : list_all is_numbered config.rules ≡ true
  pub hops_known : list_all (names_known_hop config.hops) config.rules ≡ true
  pub groups_known : list_all (names_known_group config.users) config.rules ≡ true

-- whether a user is in at most 16 groups
abbrev pub has_few_groups : User → Bool
has_few_groups user = nat_le (length user.groups) 16

-- whether what a user and the user's groups are called are names
abbrev pub is_well_named : User → Bool
is_well_named user = is_name user.name && list_all is_name user.groups

-- No list is longer than it may be, the domains and the users are one or more, and names and hosts are of their grammars.
pub record IsWithinLimits (config : Config) : Type 0 where
  pub one_domain : 1 ≤ length config.own.domains
  pub few_domains : length config.own.domains ≤ 16
  pub one_user : 1 ≤ length config.users
  pub few_users : length config.users ≤ 4096
  pub few_groups : list_all has_few_groups config.users ≡ true
  pub few_hops : length config.hops ≤ 256
  pub few_addresses : length config.addresses ≤ 1024
  pub few_rules : length config.rules ≤ 1024
  pub realm_is : is_realm config.realm ≡ true
  pub host_is : is_own_host_name config.own.host ≡ true
  pub domains_are : list_all is_host_name config.own.domains ≡ true
  pub users_are : list_all is_well_named config.users ≡ true
  pub hops_are : list_all (λ hop. is_name hop.name) config.hops ≡ true
  pub addresses_are : list_all (λ row. is_host row.host) config.addresses ≡ true
