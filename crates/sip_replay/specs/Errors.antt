-- The numbers of refusals, and why an event wasn't replayed.
use Rattle.std.specs.Prelude.{⊤, ℕ}
use Rattle.sip_resume.specs.run.engine.declared.error.StepError.{StepError}
use Rattle.sip_resume.specs.run.engine.declared.error.StepError.TheVariants as step_errors
use Rattle.sip_replay_script.specs.declared.print_stop.PrintStop.{PrintStop}
use Rattle.sip_replay_script.specs.declared.print_stop.PrintStop.TheVariants as print_stops
use Rattle.sip_replay_script.specs.declared.read_stop.ReadStop.{ReadStop}
use Rattle.sip_replay_script.specs.declared.read_stop.ReadStop.TheVariants as read_stops
use Rattle.sip_replay.specs.declared.stop.Stop.{Stop}
use Rattle.sip_replay.specs.declared.stop.Stop.TheVariants as stops
use Rattle.sip_replay.specs.declared.error.ReplayError.{ReplayError}
use Rattle.sip_replay.specs.declared.error.ReplayError.TheVariants.{NoMemory, Script, Read, Write}

-- this project's profile
abbrev pub number_of_error : ReplayError → ℕ
number_of_error NoMemory = 1
number_of_error (Script line) = 2
number_of_error Read = 3
number_of_error Write = 4

-- the refusal where no event is read that would begin with a line
abbrev pub unread_error : ReadStop → ℕ → ReplayError
unread_error read_stops.NoMemory line = NoMemory
unread_error read_stops.Damaged line = Script line
unread_error read_stops.Cut line = Script line
unread_error read_stops.Read line = Read

-- the refusal of the event that begins with a line
abbrev pub error_at : Stop → ℕ → ReplayError
error_at stops.NoMemory line = NoMemory
error_at stops.Script line = Script line
error_at stops.Write line = Write

-- want of memory stays that; any other refusal of a step is the script's
abbrev pub stop_of_step : StepError → Stop
stop_of_step step_errors.NoMemory = stops.NoMemory
stop_of_step step_errors.MomentTooLarge = stops.Script
stop_of_step step_errors.Worn = stops.Script

-- and printing stops for want of memory, or by the writer
abbrev pub stop_of_print : PrintStop → Stop
stop_of_print print_stops.NoMemory = stops.NoMemory
stop_of_print print_stops.Write = stops.Write

-- Read is answered where the reader failed, or was asked as often as it may be; Write where the writer gave up.
abbrev pub IsFaulted : Type 0 → Type 0 → ReplayError → Type 0
IsFaulted reader_stopped writer_stopped NoMemory = ⊤
IsFaulted reader_stopped writer_stopped (Script line) = ⊤
IsFaulted reader_stopped writer_stopped Read = reader_stopped
IsFaulted reader_stopped writer_stopped Write = writer_stopped
