-- What a file states: a configuration, or the first refusal.
use Rattle.std.specs.Prelude.{ℕ, List, Option, None, Some, Result, Ok, Err}
use Rattle.toml.specs.Data.{Members}
use Rattle.toml.specs.Parse.{parse_document}
use Rattle.sip_policy.specs.declared.user.User.{User}
use Rattle.sip_policy.specs.declared.rule.Rule.{Rule}
use Rattle.sip_hops.specs.declared.hop.Hop.{Hop}
use Rattle.sip_hops.specs.declared.host_address.HostAddress.{HostAddress}
use Rattle.sip_config_types.specs.declared.config.Config.{Config}
use Rattle.sip_config_values.specs.declared.error.ConfigError.{ConfigError}
use Rattle.sip_config_values.specs.declared.key.ConfigKey.TheVariants.{Rules}
use Rattle.sip_config_values.specs.declared.refusal.Refusal.{Refusal}
use Rattle.sip_config_values.specs.declared.error.ConfigError.TheVariants.{BadToml}
use Rattle.sip_config.specs.declared.head.TopLevelKeys.{TopLevelKeys}
use Rattle.sip_config_values.specs.Refusals.{◌>>=◌, error_alone}
use Rattle.sip_config_values.specs.Rows.{list_at}
use Rattle.sip_config.specs.Head.{head_of}
use Rattle.sip_config.specs.Users.{users_at}
use Rattle.sip_config.specs.Hops.{hops_at}
use Rattle.sip_config.specs.HostAddresses.{host_addresses_at}
use Rattle.sip_config.specs.Rules.{rule_lines, rules_of}
use Rattle.sip_config.specs.Keys.{all_known}
use Rattle.sip_config.specs.Limits.{all_few}

-- what a server is told, of the parts of a file
abbrev pub config_of : TopLevelKeys → List User → List Hop → List HostAddress → List Rule → Config
config_of head users hops addresses rules =
    record {
      own = record { host = head.host; port = head.port; domains = head.domains; ip = head.address.ip };
      bound_port = head.address.port;
      realm = head.realm;
      users = users;
      rules = rules;
      offset = head.offset;
      hops = hops;
      addresses = addresses;
    }

-- what the rules of a file say: each of their lines, then no unknown key in the whole file, then what they name
abbrev pub rules_at : ℕ → List User → List Hop → Members → Result (List Rule) Refusal
rules_at version users hops members = do
  items ← list_at Rules members
  _ ← rule_lines version users items
  _ ← all_known version members
  rules_of version users hops items

-- What the keys of a file state, or the first place at which they are refused. Refused is first a list that is too long; then what is
-- missing or bad, by the lines of the table of keys, each line in file order;
-- then an unknown key; then what the rules name: a number twice, an unknown hop, an unknown group.
abbrev pub placed_by : Members → Result Config Refusal
placed_by members = do
  _ ← all_few members
  head ← head_of members
  users ← users_at members
  hops ← hops_at members
  addresses ← host_addresses_at members
  rules ← rules_at head.version users hops members
  Ok (config_of head users hops addresses rules)

-- the same with the error alone, and of a file that isn't TOML
abbrev pub configuration_of : Option Members → Result Config ConfigError
configuration_of None = Err BadToml
configuration_of (Some members) = error_alone (placed_by members)

-- what a text states
abbrev pub stated_in : List ℕ → Result Config ConfigError
stated_in text = configuration_of (parse_document text)
