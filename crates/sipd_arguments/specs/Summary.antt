-- What is printed of a configuration that is read.
use Rattle.std.specs.Prelude.{ℕ, List, ◌++◌, length, decimal, codes}
use Rattle.sip_config_types.specs.declared.config.Config.{Config}

-- `ok: U users, R rules, H hops, A addresses, D domains`, and LF (this project's profile)
abbrev pub summary_of : Config → List ℕ
summary_of config =
    codes "ok: " ++ decimal (length config.users) ++ codes " users, " ++ decimal (length config.rules) ++ codes " rules, "
    ++ decimal (length config.hops) ++ codes " hops, " ++ decimal (length config.addresses) ++ codes " addresses, "
    ++ decimal (length config.own.domains) ++ codes " domains\n"
