-- What was noted, one text behind the other.
use Rattle.std.proofs.Common.{ℕ, List, [], ◌∷◌, ◌++◌, Option, Some, None, refl, sym, ◌∙◌, ap, append_assoc, append-nil}
use Rattle.sip_event.specs.declared.event.Event.{Event}
use Rattle.sip_replay_script.specs.Recorded.{SaysRecord}
use Rattle.sip_journal.specs.Segments.{SaysConfiguration, SaysSegments, Segment}
use Rattle.sip_journal.specs.Record.{Grew, GrewKnown, Notes, NotesConfiguration, NotesSegments}

known_nothing : (old : Option (List ℕ)) → GrewKnown (SaysRecord []) old old
known_nothing None = tt
known_nothing (Some all) = record { text = []; says = refl; grown = sym (append-nil all) }

pub notes_nothing : (old : Option (Option (List ℕ))) → Notes old old []
notes_nothing None = tt
notes_nothing (Some old) = known_nothing old

-- what is said of two texts is said of both
abbrev Joins : (List ℕ → Type 0) → (List ℕ → Type 0) → (List ℕ → Type 0) → Type 0
Joins First Second Both = (text more : List ℕ) → First text → Second more → Both (text ++ more)

known_both : (First Second Both : List ℕ → Type 0) → Joins First Second Both → (old mid new : Option (List ℕ)) → GrewKnown First old mid → GrewKnown Second mid new
    → GrewKnown Both old new
known_both First Second Both join None mid new a b = tt
known_both First Second Both join (Some front) None new a b = absurd a
known_both First Second Both join (Some front) (Some half) None a b = absurd b
known_both First Second Both join (Some front) (Some half) (Some all) a b = record {
  text = a.text ++ b.text;
  says = join a.text b.text a.says b.says;
  grown = b.grown ∙ ap (λ l. l ++ b.text) a.grown ∙ append_assoc front a.text b.text;
}

grew_both : (First Second Both : List ℕ → Type 0) → Joins First Second Both → (old mid new : Option (Option (List ℕ))) → Grew First old mid → Grew Second mid new
    → Grew Both old new
grew_both First Second Both join old mid None a b = tt
grew_both First Second Both join old None (Some new) a b = absurd b
grew_both First Second Both join None (Some mid) (Some new) a b = absurd a
grew_both First Second Both join (Some old) (Some mid) (Some new) a b = known_both First Second Both join old mid new a b

-- that texts which say events join
abbrev pub TextsJoin : Type 0
TextsJoin = (events others : List Event) (text more : List ℕ) → SaysRecord events text → SaysRecord others more → SaysRecord (events ++ others) (text ++ more)

pub notes_both : TextsJoin → (old mid new : Option (Option (List ℕ))) (events more : List Event) → Notes old mid events → Notes mid new more
    → Notes old new (events ++ more)
notes_both join old mid new events more a b = grew_both (SaysRecord events) (SaysRecord more) (SaysRecord (events ++ more)) (join events more) old mid new a b

-- that texts which say segments do, a configuration and the events behind it among them
abbrev pub SegmentsJoin : Type 0
SegmentsJoin = (segments others : List Segment) (text more : List ℕ) → SaysSegments segments text → SaysSegments others more
    → SaysSegments (segments ++ others) (text ++ more)

abbrev pub SegmentBegins : Type 0
SegmentBegins = (segment : Segment) (text taken : List ℕ) → SaysConfiguration text segment.configuration → SaysRecord segment.events taken
    → SaysSegments (segment ∷ []) (text ++ taken)

abbrev pub SegmentGoesOn : Type 0
SegmentGoesOn =
    (segments : List Segment) (segment : Segment) (events : List Event) (text taken : List ℕ) → SaysSegments (segments ++ segment ∷ []) text → SaysRecord events taken
    → SaysSegments (segments ++ record { configuration = segment.configuration; events = segment.events ++ events } ∷ []) (text ++ taken)

pub segments_both : SegmentsJoin → (old mid new : Option (Option (List ℕ))) (segments others : List Segment) → NotesSegments old mid segments
    → NotesSegments mid new others → NotesSegments old new (segments ++ others)
segments_both join old mid new segments others a b = grew_both (SaysSegments segments) (SaysSegments others) (SaysSegments (segments ++ others)) (join segments others)
    old mid new a b

pub segment_begins : SegmentBegins → (old mid new : Option (Option (List ℕ))) (segment : Segment) → NotesConfiguration old mid segment.configuration
    → Notes mid new segment.events → NotesSegments old new (segment ∷ [])
segment_begins join old mid new segment a b =
    grew_both (λ text. SaysConfiguration text segment.configuration) (SaysRecord segment.events) (SaysSegments (segment ∷ [])) (join segment) old mid new a b

pub segment_goes_on : SegmentGoesOn → (old mid new : Option (Option (List ℕ))) (segments : List Segment) (segment : Segment) (events : List Event)
    → NotesSegments old mid (segments ++ segment ∷ []) → Notes mid new events
    → NotesSegments old new (segments ++ record { configuration = segment.configuration; events = segment.events ++ events } ∷ [])
segment_goes_on join old mid new segments segment events a b =
    grew_both (SaysSegments (segments ++ segment ∷ [])) (SaysRecord events) (SaysSegments
    (segments ++ record { configuration = segment.configuration; events = segment.events ++ events } ∷ []))
    (join segments segment events) old mid new a b
