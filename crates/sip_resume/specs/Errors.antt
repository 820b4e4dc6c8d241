-- Why a server isn't brought to where a record leads.
use Rattle.std.specs.Prelude.{ℕ, Result, Ok, Err}
use Rattle.sip_run.specs.engine.declared.error.StepError.{StepError}
use Rattle.sip_run.specs.engine.declared.error.StepError.TheVariants as steps
use Rattle.sip_replay_script.specs.declared.print_stop.PrintStop.{PrintStop}
use Rattle.sip_replay_script.specs.declared.print_stop.PrintStop.TheVariants as prints
use Rattle.sip_replay_script.specs.declared.read_stop.ReadStop.{ReadStop}
use Rattle.sip_replay_script.specs.declared.read_stop.ReadStop.TheVariants as stops
use Rattle.sip_resume.specs.declared.error.ResumeError.{ResumeError}
use Rattle.sip_resume.specs.declared.error.ResumeError.TheVariants.{NoMemory, Damaged, Read, Step, Write}

-- what a refused step is to it
abbrev pub error_of_step : StepError → ResumeError
error_of_step steps.NoMemory = NoMemory
error_of_step steps.MomentTooLarge = Step
error_of_step steps.Worn = Step

-- and a step that isn't shown
abbrev pub error_of_print : PrintStop → ResumeError
error_of_print prints.NoMemory = NoMemory
error_of_print prints.Write = Write

-- whether a record ends where no event is read that would begin with a line, or why it isn't taken further
abbrev pub end_at : ReadStop → ℕ → Result (Unit {0}) ResumeError
end_at stops.NoMemory line = Err NoMemory
end_at stops.Damaged line = Err (Damaged line)
end_at stops.Cut line = Ok tt
end_at stops.Read line = Err Read
