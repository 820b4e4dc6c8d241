-- The keys of the configuration file that say what may not change while a server runs.
use Rattle.std.specs.Prelude.{ℕ, List, codes}
use Rattle.sip_config_change.specs.declared.key.FrameKey.{FrameKey}
use Rattle.sip_config_change.specs.declared.key.FrameKey.TheVariants.{Host, Port, Address, Domains, Realm}

-- how the file calls it
abbrev pub name_of : FrameKey → List ℕ
name_of Host = codes "host"
name_of Port = codes "port"
name_of Address = codes "address"
name_of Domains = codes "domains"
name_of Realm = codes "realm"
