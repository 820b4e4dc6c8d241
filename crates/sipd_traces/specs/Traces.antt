-- What came and went on recorded days, as a capture.
use Rattle.std.specs.Prelude.{◌≡◌, ℕ, Bool, List, ◌++◌, codes, length, map, Option, None, Some, IsSomeAnd, option_map, string_bytes}
use Rattle.std.specs.Borrow.{MutBor}
use Rattle.std.specs.Io.KnownBytes.{Appends}
use Rattle.std.specs.List.{flat_map}
use Rattle.std.specs.Str.{bytes_eq}
use Rattle.sip_text.specs.Numbers.{plain_decimal_of}
use Rattle.sip_listener.specs.Heard.{Heard}
use Rattle.sipd_capture.specs.Frames.{frames_of}
use Rattle.sipd_capture.specs.Headers.{file_head}
use Rattle.sipd_capture.specs.declared.choice.CaptureChoice.{CaptureChoice}
use Rattle.sipd_record_files.specs.Named.{AreNamed}
use Rattle.sipd_telling.specs.Records.{SaysHistory}
use Rattle.sipd_telling.specs.declared.onward.DayPoint.{DayPoint}
use Rattle.sipd_arguments.specs.declared.call.TraceCall.{TraceCall}

-- what came and went in a step
abbrev pub step_frames : CaptureChoice → Heard → List ℕ
step_frames choice step = frames_of choice step.config step.event step.out

-- what a writer holds grows by it
abbrev pub adds_frames : CaptureChoice → Option (List ℕ) → Heard → Option (List ℕ) → Type 0
adds_frames choice old step new = Appends old new (step_frames choice step)

-- what a writer holds that is lent, if one is
abbrev pub held_by : {X : Type 0} → (X → Option (List ℕ)) → Option (MutBor X) → Option (List ℕ)
held_by contents None = None
held_by contents (Some w) = contents w.now

-- the same of such a one, beside the choice: both stay
pub record TracesStep {N : Type 0} (choice choice_then : CaptureChoice) (writer writer_then : N) (old : Option (List ℕ)) (step : Heard)
    (new : Option (List ℕ)) : Type 0 where
  pub same : choice_then ≡ choice
  pub lent : writer_then ≡ writer
  pub written : adds_frames choice old step new

-- a capture of steps: its head, and behind it what came and went in each, from the first on
abbrev pub capture_of : CaptureChoice → List Heard → List ℕ
capture_of choice steps = file_head ++ flat_map (step_frames choice) steps

-- the capture of the history that so many records say was written
pub record WritesCapture (choice : CaptureChoice) (count : ℕ) (old new : Option (List ℕ)) : Type 0 where
  pub day : List Heard
  pub reached : Option DayPoint
  pub says : SaysHistory count day reached
  pub written : Appends old new (capture_of choice day)

-- ---- the command

-- whether a capture goes where the output goes
abbrev pub goes_out : TraceCall → Bool
goes_out call = bytes_eq (string_bytes call.pcap) (codes "-")

-- a word that is no number is a Call-ID
abbrev pub Means : List ℕ → List ℕ → Type 0
Means word call_id = plain_decimal_of word ≡ None → call_id ≡ word

-- the datagrams of which call are asked for: all, where none is named, and else those of the one that the word means
abbrev pub AsksFor : Option (List ℕ) → Option (List ℕ) → Type 0
AsksFor None call_id = call_id ≡ None
AsksFor (Some word) call_id = IsSomeAnd call_id (Means word)

-- Which datagrams are asked for, and whether their secrets are hidden.
pub record Chooses (call : TraceCall) (choice : CaptureChoice) : Type 0 where
  pub hides : choice.hide ≡ call.hide
  pub asks : AsksFor (option_map string_bytes call.call) choice.call_id

-- a capture of these was written, of so many records
pub record WritesChosen (call : TraceCall) (count : ℕ) (old new : Option (List ℕ)) : Type 0 where
  pub choice : CaptureChoice
  pub chosen : Chooses call choice
  pub written : WritesCapture choice count old new

-- of the records that are named
pub record WritesOut (call : TraceCall) (old new : Option (List ℕ)) : Type 0 where
  pub files : List (List ℕ)
  pub named : AreNamed (map string_bytes call.records.items) files
  pub written : WritesChosen call (length files) old new
