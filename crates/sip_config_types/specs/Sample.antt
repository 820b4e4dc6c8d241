-- The sample configuration. Its parts stand where the examples of lower crates use them.
use Rattle.std.specs.Prelude.{pos}
use Rattle.sip_route.specs.Examples.{own, sample_realm}
use Rattle.sip_hops.specs.Examples.{sample_hops, sample_addresses}
use Rattle.sip_policy.specs.Examples.{sample_users, sample_rules}
use Rattle.sip_config_types.specs.declared.config.Config.{Config}

-- a server that is known by the port that it binds, at UTC, and rules without windows
abbrev pub sample : Config
sample =
    record {
      own = own;
      bound_port = 5060;
      realm = sample_realm;
      users = sample_users;
      rules = sample_rules;
      offset = pos 0;
      hops = sample_hops;
      addresses = sample_addresses;
    }
