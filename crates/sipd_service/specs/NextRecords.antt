-- A new record that is begun between two turns, while the server serves on.
use Rattle.std.specs.Prelude.{◌≡◌, ℕ, List, [], Option, None, Some}
use Rattle.sip_config.specs.Stated.{States}
use Rattle.sip_journal.specs.Record.{Notes}
use Rattle.sip_loop.specs.run.engine.Engine.{Engine}
use Rattle.sip_model.specs.SameAhead.{SameAhead}
use Rattle.sipd_reload.specs.Watch.{WatchState}
use Rattle.sipd_service.specs.Reloads.{Written}

-- the bytes of the configuration in force: those that a watch knows, or those with which the service began
abbrev pub in_force : List ℕ → Option WatchState → List ℕ
in_force stated None = stated
in_force stated (Some watch) = watch.in_force

-- Nothing is begun: the same server serves on, and its journal tells nothing more, unless it has failed. Or a new record is begun: it leads to a
-- server of the configuration that these bytes state and of the same word, in a state that is the same ahead, and that server serves from then on.
-- Whatever comes, it sends and records the same (law runs_same of sip_model).
pub data MayGoOver (bytes : List ℕ) (before after : Engine) (written written_then : Written) : Type 0 where
  Stays : after ≡ before → Notes written written_then [] → MayGoOver bytes before after written written_then
  GoesOver : States bytes after.server.config → after.server.word ≡ before.server.word → SameAhead after.state before.state
      → MayGoOver bytes before after written written_then
