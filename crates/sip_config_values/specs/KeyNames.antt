-- What the keys of a file are called.
use Rattle.std.specs.Prelude.{ℕ, List, codes}
use Rattle.sip_config_values.specs.declared.key.ConfigKey.{ConfigKey}
use Rattle.sip_config_values.specs.declared.key.ConfigKey.TheVariants as keys

abbrev pub name_of : ConfigKey → List ℕ
name_of keys.Version = codes "version"
name_of keys.Offset = codes "offset"
name_of keys.Realm = codes "realm"
name_of keys.Host = codes "host"
name_of keys.Port = codes "port"
name_of keys.Address = codes "address"
name_of keys.Domains = codes "domains"
name_of keys.Users = codes "user"
name_of keys.Hops = codes "hop"
name_of keys.HostAddresses = codes "host_address"
name_of keys.Rules = codes "rule"
name_of keys.Name = codes "name"
name_of keys.A1 = codes "a1"
name_of keys.A1Sha256 = codes "a1_sha256"
name_of keys.Groups = codes "groups"
name_of keys.Id = codes "id"
name_of keys.WhoAsks = codes "who"
name_of keys.Operation = codes "op"
name_of keys.Target = codes "target"
name_of keys.Verdict = codes "verdict"
name_of keys.From = codes "from"
name_of keys.Until = codes "until"
name_of keys.Unknown = codes ""
