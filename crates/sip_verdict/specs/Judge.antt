-- When the rules and the tables of addresses of a server are those that it was configured with.
use Rattle.std.specs.Prelude.{◌≡◌, ℕ, List}
use Rattle.sip_hops.specs.Hops.{HopTables}
use Rattle.sip_policy.specs.declared.rule.Rule.{Rule}
use Rattle.sip_policy.specs.declared.user.User.{User}
use Rattle.sip_config_types.specs.declared.config.Config.{Config}

-- rules, users, own domains and tables are those of a configuration
pub record IsConfigured (config : Config) (rules : List Rule) (users : List User) (domains : List (List ℕ)) (tables : HopTables) : Type 0 where
  pub rules_are : rules ≡ config.rules
  pub users_are : users ≡ config.users
  pub domains_are : domains ≡ config.own.domains
  pub hops_are : tables.hops ≡ config.hops
  pub addresses_are : tables.addresses ≡ config.addresses
