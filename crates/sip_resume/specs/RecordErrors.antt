-- Why a server isn't brought to where a record with its configurations leads.
use Rattle.std.specs.Prelude.{Result, Ok, Err}
use Rattle.sip_segment_config.specs.declared.stop.SegmentStop.{SegmentStop}
use Rattle.sip_segment_config.specs.declared.stop.SegmentStop.TheVariants as stops
use Rattle.sip_resume.specs.declared.error.ResumeError.{ResumeError}
use Rattle.sip_resume.specs.declared.error.ResumeError.TheVariants as events
use Rattle.sip_resume.specs.declared.record_error.RecordError.{RecordError}
use Rattle.sip_resume.specs.declared.record_error.RecordError.TheVariants.{NoMemory, Damaged, Read, Step, Journal, TooLong, NoConfiguration, OtherFrame, Write}

-- where events are refused
abbrev pub record_error_of : ResumeError → RecordError
record_error_of events.NoMemory = NoMemory
record_error_of (events.Damaged line) = Damaged line
record_error_of events.Read = Read
record_error_of events.Step = Step
record_error_of events.Journal = Journal
record_error_of events.Write = Write

-- whether a record ends where no configuration is taken, or why it isn't taken further
abbrev pub end_of : SegmentStop → Result (Unit {0}) RecordError
end_of stops.NoMemory = Err NoMemory
end_of (stops.Damaged line) = Err (Damaged line)
end_of (stops.Cut line) = Ok tt
end_of stops.Read = Err Read
end_of (stops.TooLong line) = Err (TooLong line)
end_of (stops.NoConfiguration line e) = Err (NoConfiguration line e)
end_of (stops.OtherFrame line key) = Err (OtherFrame line key)
