-- A record of events alone that isn't taken further.
use Rattle.std.specs.Prelude.{◌≡◌, ℕ, List, ◌++◌, count_by, Option, None, Some, IfSome}
use Rattle.sip_event.specs.declared.event.Event.{Event}
use Rattle.sip_model.specs.state.declared.server.Server.{Server}
use Rattle.sip_model.specs.TimerOrder.{Standing}
use Rattle.sip_replay_script.specs.Lines.{is_end}
use Rattle.sip_replay_script.specs.Recorded.{SaysRecord}
use Rattle.sip_journal.specs.Configurations.{IsLongConfiguration}
use Rattle.sip_journal.specs.Segments.{SaysConfiguration}
use Rattle.sip_journal.specs.Record.{Notes}
use Rattle.sip_resume.specs.Outputs.{Outputs, Shows}
use Rattle.sip_resume.specs.RecordErrors.{record_error_of}
use Rattle.sip_resume.specs.Resumes.{ResumeStops, Runs}
use Rattle.sip_resume.specs.declared.error.ResumeError.{ResumeError}
use Rattle.sip_resume.specs.declared.record_error.RecordError.{RecordError}

-- what is left is known, and begins with no text that says a configuration, nor with lines that give more bytes than one may have
pub record BeginsNoConfiguration (longest : ℕ) (rest : Option (List ℕ)) : Type 0 where
  pub bytes : List ℕ
  pub known : rest ≡ Some bytes
  pub none : (text further configuration : List ℕ) → bytes ≡ text ++ further → SaysConfiguration text configuration → ⊥
  pub short : IsLongConfiguration longest bytes → ⊥

-- A record of events was refused behind some of them, by which the server had come to a state; exactly what is printed of their steps was
-- shown by then; the journal was told them, unless it has failed; and the refusal is one of those of the next event, for the reason that
-- `ResumeStops` has for it.
pub record IsUnresumed (server : Server) (old new : Standing) (spent : Type 0) (record_bytes : Option (List ℕ)) (outs outs_then : Outputs)
    (e : RecordError) : Type 0 where
  pub text : List ℕ
  pub events : List Event
  pub rest : Option (List ℕ)
  pub reached : Standing
  pub half : Outputs
  pub refusal : ResumeError
  pub says : SaysRecord events text
  pub whole : IfSome record_bytes (λ bytes. (further : List ℕ) × (rest ≡ Some further) × (bytes ≡ text ++ further))
  pub runs : Runs server old reached events None
  pub shown : Shows outs.shown half.shown runs.steps
  pub noted : Notes outs.written outs_then.written events
  pub is_refusal : e ≡ record_error_of refusal
  pub why : ResumeStops server reached new spent rest (count_by is_end text) half outs_then refusal
