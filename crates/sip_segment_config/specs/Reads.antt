-- The next configuration of a record, with what it states.
use Rattle.std.specs.Prelude.{ℕ, List, Option}
use Rattle.sip_config.specs.Stated.{States}
use Rattle.sip_config_types.specs.declared.config.Config.{Config}
use Rattle.sip_replay_script.specs.Lines.{Reading}
use Rattle.sip_journal.specs.Configurations.{GivesConfiguration}

-- the next text of the record says these bytes, and they state that configuration
pub record GivesStated (part rest : Reading) (before after : Option (List ℕ)) (text : List ℕ) (config : Config) : Type 0 where
  pub gives : GivesConfiguration part rest before after text
  pub states : States text config
