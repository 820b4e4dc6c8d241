-- What a file states that holds a configuration.
use Rattle.std.specs.Prelude.{ℕ, List, ◌≡◌, Option, Some, None}
use Rattle.sip_config.specs.values.declared.error.ConfigError.{ConfigError}
use Rattle.sip_config.specs.Stated.{States, StatesNone}
use Rattle.sip_config_types.specs.declared.config.Config.{Config}
use Rattle.sip_config_types.specs.Sample.{sample}
use Rattle.sipd_exit.specs.Exits.{exit_of_config}
use Rattle.sipd_exit.specs.declared.exit.Exit.{Exit}

-- bytes state no configuration, and the program ends as the error of that says
pub record IsRefusedWith (bytes : List ℕ) (exit : Exit) : Type 0 where
  pub error : ConfigError
  pub none : StatesNone bytes error
  pub same : exit ≡ exit_of_config error

-- the configuration in force: what some bytes state where a file is named, and else the sample
abbrev pub IsInForce : {A : Type 0} → Option A → Config → Type 0
IsInForce None config = config ≡ sample
IsInForce (Some path) config = (bytes : List ℕ) × States bytes config
