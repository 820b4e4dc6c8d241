-- What is written of the events that a server takes, and of its configurations.
use Rattle.std.specs.Prelude.{◌≡◌, ⊤, ℕ, List, ◌++◌, Option, Some, None}
use Rattle.sip_event.specs.declared.event.Event.{Event}
use Rattle.sip_replay_script.specs.Recorded.{SaysRecord}
use Rattle.sip_journal.specs.Segments.{SaysConfiguration, SaysSegments, Segment}

-- the bytes of a record grew by a text that says something
pub record GrewBy (Says : List ℕ → Type 0) (front all : List ℕ) : Type 0 where
  pub text : List ℕ
  pub says : Says text
  pub grown : all ≡ front ++ text

-- and so they did, where they were told; what is told stays told
abbrev pub GrewKnown : (List ℕ → Type 0) → Option (List ℕ) → Option (List ℕ) → Type 0
GrewKnown Says None new = ⊤
GrewKnown Says (Some front) None = ⊥
GrewKnown Says (Some front) (Some all) = GrewBy Says front all

-- and so they did, unless the record has failed; what has failed stays so
abbrev pub Grew : (List ℕ → Type 0) → Option (Option (List ℕ)) → Option (Option (List ℕ)) → Type 0
Grew Says old None = ⊤
Grew Says None (Some new) = ⊥
Grew Says (Some old) (Some new) = GrewKnown Says old new

-- by lines that say these events, as a record says them
abbrev pub NotesText : List ℕ → List ℕ → List Event → Type 0
NotesText front all events = GrewBy (SaysRecord events) front all

abbrev pub NotesKnown : Option (List ℕ) → Option (List ℕ) → List Event → Type 0
NotesKnown old new events = GrewKnown (SaysRecord events) old new

abbrev pub Notes : Option (Option (List ℕ)) → Option (Option (List ℕ)) → List Event → Type 0
Notes old new events = Grew (SaysRecord events) old new

-- by lines that say exactly this configuration
abbrev pub NotesConfiguration : Option (Option (List ℕ)) → Option (Option (List ℕ)) → List ℕ → Type 0
NotesConfiguration old new configuration = Grew (λ text. SaysConfiguration text configuration) old new

-- by lines that say these segments
abbrev pub NotesSegments : Option (Option (List ℕ)) → Option (Option (List ℕ)) → List Segment → Type 0
NotesSegments old new segments = Grew (SaysSegments segments) old new
