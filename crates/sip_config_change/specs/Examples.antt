-- Configurations that differ from the sample.
use Rattle.std.specs.Prelude.{ℕ, pos, List, []}
use Rattle.sip_route.specs.declared.own.Own.{Own}
use Rattle.sip_config_types.specs.declared.config.Config.{Config}
use Rattle.sip_config_types.specs.Sample.{sample}

-- all may differ that isn't the frame: without users, rules, hops and addresses, an hour ahead, at another port
abbrev pub other_policy : Config
other_policy = record sample { bound_port = 5070; users = []; rules = []; offset = pos 60; hops = []; addresses = [] }

-- at another place
abbrev pub at : Own → Config
at own = record sample { own = own }

-- in another realm
abbrev pub in_realm : List ℕ → Config
in_realm realm = record sample { realm = realm }
