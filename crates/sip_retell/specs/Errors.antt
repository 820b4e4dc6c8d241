-- Why a record isn't told further.
use Rattle.std.specs.Prelude.{ℕ, Result, Ok, Err}
use Rattle.sip_resume.specs.run.engine.declared.error.StepError.{StepError}
use Rattle.sip_resume.specs.run.engine.declared.error.StepError.TheVariants as steps
use Rattle.sip_replay_script.specs.declared.print_stop.PrintStop.{PrintStop}
use Rattle.sip_replay_script.specs.declared.print_stop.PrintStop.TheVariants as prints
use Rattle.sip_replay_script.specs.declared.read_stop.ReadStop.{ReadStop}
use Rattle.sip_replay_script.specs.declared.read_stop.ReadStop.TheVariants as reads
use Rattle.sip_segment_config.specs.declared.stop.SegmentStop.{SegmentStop}
use Rattle.sip_segment_config.specs.declared.stop.SegmentStop.TheVariants as stops
use Rattle.sip_retell.specs.declared.error.RetellError.{RetellError}
use Rattle.sip_retell.specs.declared.error.RetellError.TheVariants.{NoMemory, Damaged, Read, Step, TooLong, NoConfiguration, OtherFrame, Listener}

-- what a refused step is to it
abbrev pub error_of_step : StepError → RetellError
error_of_step steps.NoMemory = NoMemory
error_of_step steps.MomentTooLarge = Step
error_of_step steps.Worn = Step

-- and a step that the listener didn't take
abbrev pub error_of_print : PrintStop → RetellError
error_of_print prints.NoMemory = NoMemory
error_of_print prints.Write = Listener

-- whether a record ends where no event is read that would begin with a line, or why it isn't told further
abbrev pub end_at : ReadStop → ℕ → Result (Unit {0}) RetellError
end_at reads.NoMemory line = Err NoMemory
end_at reads.Damaged line = Err (Damaged line)
end_at reads.Cut line = Ok tt
end_at reads.Read line = Err Read

-- and where no configuration is taken
abbrev pub end_of : SegmentStop → Result (Unit {0}) RetellError
end_of stops.NoMemory = Err NoMemory
end_of (stops.Damaged line) = Err (Damaged line)
end_of (stops.Cut line) = Ok tt
end_of stops.Read = Err Read
end_of (stops.TooLong line) = Err (TooLong line)
end_of (stops.NoConfiguration line e) = Err (NoConfiguration line e)
end_of (stops.OtherFrame line key) = Err (OtherFrame line key)
