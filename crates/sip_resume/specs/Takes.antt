-- A server that takes the next configuration of a record.
use Rattle.std.specs.Prelude.{◌≡◌, ℕ, List, Option}
use Rattle.sip_config_types.specs.declared.config.Config.{Config}
use Rattle.sip_run.specs.engine.Engine.{Engine}
use Rattle.sip_run.specs.engine.model.Run.{under}
use Rattle.sip_replay_script.specs.Lines.{Reading}
use Rattle.sip_journal.specs.Configurations.{GivesConfiguration}
use Rattle.sip_config.specs.Stated.{States}

-- it is under another configuration, to others the same server, and nothing else of it has changed
pub record ChangesTo (old new : Engine) (config : Config) : Type 0 where
  pub server : new.server ≡ record { config = config; word = old.server.word }
  pub is_under : new.server ≡ under old.server config
  pub state : new.state ≡ old.state
  pub timers : new.timers ≡ old.timers
  pub secrets : new.secrets ≡ old.secrets

-- the configuration that these bytes state is in force
pub record Changes (old new : Engine) (text : List ℕ) : Type 0 where
  pub config : Config
  pub states : States text config
  pub changes : ChangesTo old new config

-- the next text of the record says these bytes, and the configuration that they state is in force
pub record TakesConfiguration (old new : Engine) (part rest : Reading) (before after : Option (List ℕ)) (text : List ℕ) : Type 0 where
  pub gives : GivesConfiguration part rest before after text
  pub taken : Changes old new text
