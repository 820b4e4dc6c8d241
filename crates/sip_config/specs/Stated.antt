-- What the bytes of a configuration's file state.
use Rattle.std.specs.Prelude.{ℕ, List, ◌≡◌, ◌⊎◌, Ok, Err}
use Rattle.std.specs.Str.{IsUtf8}
use Rattle.sip_config.specs.Configuration.{stated_in}
use Rattle.sip_config_values.specs.declared.error.ConfigError.{ConfigError}
use Rattle.sip_config_values.specs.declared.error.ConfigError.TheVariants.{BadToml}
use Rattle.sip_config_types.specs.declared.config.Config.{Config}

-- bytes state a configuration: they are UTF-8, and their text states it
pub record States (bytes : List ℕ) (config : Config) : Type 0 where
  pub utf8 : IsUtf8 bytes
  pub stated : stated_in bytes ≡ Ok config

-- they are a text that is refused with an error
pub record IsRefusedText (bytes : List ℕ) (e : ConfigError) : Type 0 where
  pub utf8 : IsUtf8 bytes
  pub stated : stated_in bytes ≡ Err e

-- They state none: they aren't UTF-8, and so no TOML; or their text is refused.
abbrev pub StatesNone : List ℕ → ConfigError → Type 0
StatesNone bytes e = ((IsUtf8 bytes → ⊥) × (e ≡ BadToml)) ⊎ IsRefusedText bytes e
