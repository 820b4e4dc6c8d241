-- Why the next configuration of a record isn't taken.
use Rattle.std.specs.Prelude.{◌≡◌, ◌+◌, ⊤, ℕ, List, Option, Some}
use Rattle.sip_config.specs.Stated.{States}
use Rattle.sip_config_types.specs.declared.config.Config.{Config}
use Rattle.sip_config_change.specs.declared.key.FrameKey.{FrameKey}
use Rattle.sip_config_change.specs.Frame.{frame_key_of}
use Rattle.sip_run.specs.engine.state.declared.server.Server.{Server}
use Rattle.sip_segment_config.specs.Stops.{NextIs, ReadStops}
use Rattle.sip_segment_config.specs.declared.stop.SegmentStop.{SegmentStop}
use Rattle.sip_segment_config.specs.declared.stop.SegmentStop.TheVariants.{NoMemory, Damaged, Cut, Read, TooLong, NoConfiguration, OtherFrame}

-- bytes state a configuration that is another server's, by a key
pub record StatesOther (server : Server) (bytes : List ℕ) (key : FrameKey) : Type 0 where
  pub config : Config
  pub states : States bytes config
  pub other : frame_key_of server.config config ≡ Some key

-- Why a server takes no configuration of at most so many bytes from what is still to come of a record, behind so many lines: the text states one
-- that is another server's; or none is read.
abbrev pub SegmentStops : Server → ℕ → Type 0 → Option (List ℕ) → ℕ → SegmentStop → Type 0
SegmentStops server longest spent rest lines (OtherFrame line key) = NextIs rest (λ bytes. StatesOther server bytes key) × (line ≡ lines + 1)
SegmentStops server longest spent rest lines stop = ReadStops longest spent rest lines stop

-- ---- inside

-- why a server isn't under a configuration, whose first line is this one
abbrev pub ChangeStops : Server → Config → ℕ → SegmentStop → Type 0
ChangeStops server config first NoMemory = ⊤
ChangeStops server config first (Damaged line) = ⊥
ChangeStops server config first (Cut line) = ⊥
ChangeStops server config first Read = ⊥
ChangeStops server config first (TooLong line) = ⊥
ChangeStops server config first (NoConfiguration line e) = ⊥
ChangeStops server config first (OtherFrame line key) = (frame_key_of server.config config ≡ Some key) × (line ≡ first)
