-- What a recorder makes of an event, and of a configuration.
use Rattle.std.specs.Prelude.{◌≡◌, ◌⊎◌, ◌&&◌, ◌≤◌, ◌+◌, ℕ, Bool, true, false, List, ◌++◌, length, take, Option, Some, None, Result, Ok, Err}
use Rattle.std.specs.Io.KnownBytes.{Appends}
use Rattle.sip_event.specs.declared.event.Event.{Event}
use Rattle.sip_replay_script.specs.Devices.{WritesFront}
use Rattle.sip_replay_script.specs.Lines.{IsLine}
use Rattle.sip_journal.specs.Segments.{piece_of, GivesText, SaysConfiguration}
use Rattle.sip_replay_script.specs.EventText.{event_text, is_sayable}
use Rattle.sip_journal.specs.declared.journal.JournalFault.{JournalFault}
use Rattle.sip_journal.specs.declared.on_fault.OnFault.{OnFault}
use Rattle.sip_journal.specs.declared.on_fault.OnFault.TheVariants.{End, GoOn}

-- what is told of a writer's bytes: nothing once it has failed
abbrev pub told : Bool → Option (List ℕ) → Option (Option (List ℕ))
told true contents = None
told false contents = Some contents

-- it says that it has failed where the server is to end then
abbrev pub answer_of : OnFault → Bool → Result (Unit {0}) JournalFault
answer_of End true = Err (record {})
answer_of End false = Ok tt
answer_of GoOn failed = Ok tt

-- whether the server is to end where the record can't be kept
abbrev pub is_end : OnFault → Bool
is_end End = true
is_end GoOn = false

-- so it answers faults once it has failed, where the server is to end then
abbrev pub is_faulted : OnFault → Bool → Bool
is_faulted on_fault failed = failed && is_end on_fault

-- exactly an event's text was written, and handed on
pub record WritesEvent (old new : Option (List ℕ)) (flushed : Type 0) (event : Event) : Type 0 where
  pub sayable : is_sayable event ≡ true
  pub written : Appends old new (event_text event)
  pub handed_on : flushed

-- why it wasn't: no script says the event, or the writer gave up
abbrev pub CantWrite : Type 0 → Event → Type 0
CantWrite gave_up event = (is_sayable event ≡ false) ⊎ gave_up

-- ---- a configuration

-- lines that say exactly it were written, and handed on
pub record WritesConfiguration (old new : Option (List ℕ)) (flushed : Type 0) (configuration : List ℕ) : Type 0 where
  pub text : List ℕ
  pub says : SaysConfiguration text configuration
  pub written : Appends old new text
  pub handed_on : flushed

-- a front of such lines was written
pub record FrontOfConfiguration (old new : Option (List ℕ)) (configuration : List ℕ) : Type 0 where
  pub text : List ℕ
  pub says : SaysConfiguration text configuration
  pub written : WritesFront old new text

-- a line gives the first bytes of a text, at least one
pub record IsFirstPiece (text mark bytes : List ℕ) (count : ℕ) : Type 0 where
  pub is_line : IsLine (mark ++ bytes)
  pub gives : piece_of (mark ++ bytes) ≡ Some (take count text)
  pub some : 1 ≤ count
  pub within : count ≤ length text
  pub short : length mark + length bytes ≤ 131074

-- lines that give a text up to its rest were written
pub record WritesText (old new : Option (List ℕ)) (text rest : List ℕ) : Type 0 where
  pub done : List ℕ
  pub lines : List ℕ
  pub cut : text ≡ done ++ rest
  pub gives : GivesText lines done
  pub written : Appends old new lines

-- a front of lines that give it
pub record FrontOfText (old new : Option (List ℕ)) (text : List ℕ) : Type 0 where
  pub lines : List ℕ
  pub gives : GivesText lines text
  pub written : WritesFront old new lines
