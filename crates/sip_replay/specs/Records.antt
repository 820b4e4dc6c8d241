-- A record that is replayed: what it says is taken again, and what is printed of the steps is written.
use Rattle.std.specs.Prelude.{◌≡◌, ◌⊎◌, ℕ, List, Option, None, Some}
use Rattle.sip_event.specs.declared.event.StepOut.{StepOut}
use Rattle.sip_config_types.specs.declared.config.Config.{Config}
use Rattle.sip_model.specs.state.declared.server.Server.{Server}
use Rattle.sip_model.specs.TimerOrder.{Standing, first_standing}
use Rattle.sip_model.specs.Access.{Access}
use Rattle.sip_model.specs.Bounds.{IsBounded}
use Rattle.sip_resume.specs.Outputs.{Outputs, outputs_of}
use Rattle.sip_resume.specs.Whole.{IsRecordResumed, IsRecordUnresumed}
use Rattle.sip_resume.specs.declared.record_error.RecordError.{RecordError}
use Rattle.sip_resume.specs.declared.record_error.RecordError.TheVariants.{NoMemory}
use Rattle.sip_replay.specs.Replays.{server_with}

-- nothing is told of events, and so much was written of steps
abbrev pub written_alone : Option (List ℕ) → Outputs
written_alone contents = outputs_of (Some None) contents

-- A server with this configuration takes, from its start on, what is to come of a record behind so many lines, and exactly what is printed of
-- its steps was written. Each of them is lawful by its history and the configuration in force then, as `Access` says, and they are bounded, as
-- `IsBounded` says.
pub record IsRecordReplay (config : Config) (word first : ℕ) (record_bytes : Option (List ℕ)) (lines : ℕ) (old new : Option (List ℕ)) : Type 0 where
  pub server_then : Server
  pub state : Standing
  pub lines_then : ℕ
  pub last : Option StepOut
  pub taken : IsRecordResumed (server_with config word) server_then (first_standing first) state record_bytes lines (written_alone old)
      (written_alone new) lines_then last
  pub access : Access (server_with config word) taken.takes.runs.history
  pub bounded : IsBounded (server_with config word) taken.takes.runs.history

-- memory ran out before it began
pub record IsUnbegun (old new : Option (List ℕ)) (e : RecordError) : Type 0 where
  pub no_memory : e ≡ NoMemory
  pub silent : new ≡ old

-- it was refused behind some of it, which was lawful, and of whose steps exactly what is printed was written
pub record IsPartlyReplayed (config : Config) (word first longest : ℕ) (spent : Type 0) (record_bytes : Option (List ℕ)) (lines : ℕ)
    (old new : Option (List ℕ)) (e : RecordError) : Type 0 where
  pub server_then : Server
  pub state : Standing
  pub stopped : IsRecordUnresumed (server_with config word) server_then (first_standing first) state longest spent record_bytes lines
      (written_alone old) (written_alone new) e
  pub access : Access (server_with config word) stopped.takes.runs.history
  pub bounded : IsBounded (server_with config word) stopped.takes.runs.history

abbrev pub IsRecordUnreplayed : Config → ℕ → ℕ → ℕ → Type 0 → Option (List ℕ) → ℕ → Option (List ℕ) → Option (List ℕ) → RecordError → Type 0
IsRecordUnreplayed config word first longest spent record_bytes lines old new e =
    IsUnbegun old new e ⊎ IsPartlyReplayed config word first longest spent record_bytes lines old new e
