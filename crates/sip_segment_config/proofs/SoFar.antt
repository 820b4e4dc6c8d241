-- The last configuration of a record, as its parts are read.
use Rattle.std.proofs.Common.{◌≡◌, ℕ, ◌+◌, ◌<◌, ◌≤◌, List, [], ◌∷◌, ◌++◌, Option, None, Some, Result, Ok, Err, refl, sym, ◌∙◌, ap, subst, arith, cond, append-nil}
use Rattle.std.proofs.Common.{append_assoc}
use Rattle.std.specs.Prelude.{IfErr, IfOk, IfSome, count_by}
use Rattle.std.specs.Io.KnownBytes.{Consumes, Keeps}
use Rattle.std.proofs.KnownBytes.{Consumes-trans}
use Rattle.std.proofs.lemmas.List.Sums.{sum_by-append}
use Rattle.sip_event.specs.declared.event.Event.{Event}
use Rattle.sip_replay_script.specs.Lines.{Reading, is_end, left, pending}
use Rattle.sip_replay_script.specs.Recorded.{IsDamagedRecord, SaysRecord}
use Rattle.sip_replay_script.proofs.RecordTexts.{record_all, record_one}
use Rattle.sip_replay_script.proofs.Written.{keeps_consumes}
use Rattle.sip_journal.specs.Configurations.{ComesNext, IsDamagedConfiguration, IsLongConfiguration}
use Rattle.sip_journal.specs.Segments.{SaysConfiguration, SaysSegments, SaysWhole, Segment}
use Rattle.sip_journal.specs.declared.upcoming.Upcoming.{Upcoming}
use Rattle.sip_journal.specs.declared.upcoming.Upcoming.TheVariants as upcoming
use Rattle.sip_segment_config.specs.Last.{last_behind, GivesPart, HasLast, IsDamagedPart, IsLastOf, IsLastText, IsSoBehind}
use Rattle.sip_segment_config.specs.Last.{LastStops, PartStops, ReadsText, SaysToEnd}
use Rattle.sip_segment_config.specs.Stops.{TextStops}
use Rattle.sip_segment_config.specs.declared.last_text.LastText.{LastText}
use Rattle.sip_segment_config.specs.declared.last_text.RecordPart.{RecordPart}
use Rattle.sip_segment_config.specs.declared.last_text.RecordPart.TheVariants as parts
use Rattle.sip_segment_config.specs.declared.stop.SegmentStop.{SegmentStop}
use Rattle.sip_segment_config.specs.declared.stop.SegmentStop.TheVariants as stops

abbrev pub SegmentTextsJoin : Type 0
SegmentTextsJoin = (segments others : List Segment) (text more : List ℕ) → SaysSegments segments text → SaysSegments others more
    → SaysSegments (segments ++ others) (text ++ more)

abbrev pub SegmentBegins : Type 0
SegmentBegins = (segment : Segment) (text taken : List ℕ) → SaysConfiguration text segment.configuration → SaysRecord segment.events taken
    → SaysSegments (segment ∷ []) (text ++ taken)

abbrev pub SegmentGrows : Type 0
SegmentGrows =
    (segments : List Segment) (segment : Segment) (events : List Event) (text taken : List ℕ) → SaysSegments (segments ++ segment ∷ []) text → SaysRecord events taken
    → SaysSegments (segments ++ record { configuration = segment.configuration; events = segment.events ++ events } ∷ []) (text ++ taken)

-- ---- what is known of bytes that stay

pub if_kept : (X : List ℕ → Type 0) (a b : Option (List ℕ)) → Keeps a b → IfSome b X → IfSome a X
if_kept X None b kept h = tt
if_kept X (Some xs) None kept h = absurd kept
if_kept X (Some xs) (Some ys) kept h = subst X kept h

-- ---- the next part, behind a look at it

-- what comes next may be an event, of which nothing was passed, and is no configuration
pub comes_event : (next : Upcoming) (old new : Reading) (before after : Option (List ℕ)) → next ≡ upcoming.Event → ComesNext next old new before after
    → Keeps (pending old before) (pending new after) × IfSome (pending old before) IsDamagedConfiguration
comes_event next old new before after is h = subst (λ (n : Upcoming). ComesNext n old new before after) is h

-- or a configuration
pub comes_configuration : (next : Upcoming) (old new : Reading) (before after : Option (List ℕ)) → next ≡ upcoming.Configuration → ComesNext next old new before after
    → Keeps (pending old before) (pending new after) × IfSome (pending old before) IsDamagedRecord
comes_configuration next old new before after is h = subst (λ (n : Upcoming). ComesNext n old new before after) is h

less_behind : (a b c : ℕ) → a < b → b ≤ c → a < c
less_behind a b c h k = omega (arith, h, k)

part_behind : (longest : ℕ) (found : RecordPart) (part mid rest : Reading) (before middle after : Option (List ℕ)) → Keeps (pending part before) (pending mid middle)
    → mid.number ≡ part.number → left mid ≤ left part
    → GivesPart longest mid rest middle after found → GivesPart longest part rest before after found
part_behind longest parts.Event part mid rest before middle after kept number fewer h =
    let given = h.gives.given in
    record {
      event = h.event;
      gives = record {
        given = record {
          text = given.text;
          says = given.says;
          consumes = keeps_consumes (pending part before) (pending mid middle) (pending rest after) given.text kept given.consumes;
          number = given.number ∙ ap (λ n. n + count_by is_end given.text) number;
          fewer = less_behind (left rest) (left mid) (left part) given.fewer fewer;
        };
        recorded = h.gives.recorded;
      };
    }
part_behind longest (parts.Configuration last) part mid rest before middle after kept number fewer h = record {
  gives = record {
    text = h.gives.text;
    says = h.gives.says;
    consumes = keeps_consumes (pending part before) (pending mid middle) (pending rest after) h.gives.text kept h.gives.consumes;
    number = h.gives.number ∙ ap (λ n. n + count_by is_end h.gives.text) number;
    fewer = less_behind (left rest) (left mid) (left part) h.gives.fewer fewer;
  };
  short = h.short;
  begins = h.begins ∙ ap (λ n. n + 1) number;
}

pub given_behind : (longest : ℕ) (result : Result (Option RecordPart) SegmentStop) (part mid rest : Reading) (before middle after : Option (List ℕ))
    → Keeps (pending part before) (pending mid middle) → mid.number ≡ part.number → left mid ≤ left part
    → IfOk result (λ found. IfSome found (GivesPart longest mid rest middle after)) → IfOk result (λ found. IfSome found (GivesPart longest part rest before after))
given_behind longest (Err stop) part mid rest before middle after kept number fewer h = tt
given_behind longest (Ok None) part mid rest before middle after kept number fewer h = tt
given_behind longest (Ok (Some found)) part mid rest before middle after kept number fewer h =
    part_behind longest found part mid rest before middle after kept number fewer h

both : (X Y Z : List ℕ → Type 0) (a b : Option (List ℕ)) → Keeps a b → ((bytes : List ℕ) → X bytes → Y bytes → Z bytes) → IfSome a X → IfSome b Y → IfSome a Z
both X Y Z None b kept f h k = tt
both X Y Z (Some bytes) b kept f h k = f bytes h (if_kept Y (Some bytes) b kept k)

stops_behind : (X Y : List ℕ → Type 0) (longest : ℕ) (F : Type 0) (a b : Option (List ℕ)) (lines lines_then : ℕ) (stop : SegmentStop) → Keeps a b → lines_then ≡ lines
    → ((bytes : List ℕ) → X bytes → Y bytes → IsDamagedPart bytes)
    → IfSome a X → PartStops Y longest F b lines_then stop → PartStops IsDamagedPart longest F a lines stop
stops_behind X Y longest F a b lines lines_then stops.NoMemory kept number f other h = tt
stops_behind X Y longest F a b lines lines_then (stops.Damaged line) kept number f other h = (both X Y IsDamagedPart a b kept f other h.0, h.1 ∙ ap (λ n. n + 1) number)
stops_behind X Y longest F a b lines lines_then (stops.Cut line) kept number f other h = absurd h
stops_behind X Y longest F a b lines lines_then stops.Read kept number f other h = h
stops_behind X Y longest F a b lines lines_then (stops.TooLong line) kept number f other h =
    (if_kept (IsLongConfiguration longest) a b kept h.0, h.1 ∙ ap (λ n. n + 1) number)
stops_behind X Y longest F a b lines lines_then (stops.NoConfiguration line e) kept number f other h = absurd h
stops_behind X Y longest F a b lines lines_then (stops.OtherFrame line key) kept number f other h = absurd h

-- where what comes next is no configuration, and is no event either
pub event_refused : (longest : ℕ) (F : Type 0) (result : Result (Option RecordPart) SegmentStop) (a b : Option (List ℕ)) (lines lines_then : ℕ) → Keeps a b
    → lines_then ≡ lines
    → IfSome a IsDamagedConfiguration
    → IfErr result (PartStops IsDamagedRecord longest F b lines_then) → IfErr result (PartStops IsDamagedPart longest F a lines)
event_refused longest F (Ok found) a b lines lines_then kept number other h = tt
event_refused longest F (Err stop) a b lines lines_then kept number other h =
    stops_behind IsDamagedConfiguration IsDamagedRecord longest F a b lines lines_then stop kept number (λ bytes c e. record { no_event = e; no_configuration = c }) other
    h

-- ---- one part more

-- what was read says events, and segments if there is a last configuration, which is that of the last of them
pub record SoFar (longest : ℕ) (before rest : Option (List ℕ)) (lines lines_then : ℕ) (last : Option LastText) : Type 0 where
  pub text : List ℕ
  pub is : IsLastOf longest lines last text
  pub consumes : Consumes before rest text
  pub counted : lines_then ≡ lines + count_by is_end text

-- an event goes to the last segment
event_more : SegmentGrows → (longest lines : ℕ) (last : Option LastText) (text more : List ℕ) (event : Event) → IsLastOf longest lines last text
    → SaysRecord (event ∷ []) more → IsLastOf longest lines last (text ++ more)
event_more grows longest lines None text more event h says = (
  h.0 ++ event ∷ [],
  record {
    taken = h.1.taken ++ more;
    rest = [];
    cut = ap (λ (l : List ℕ). l ++ more) (h.1.cut ∙ ap (λ (l : List ℕ). h.1.taken ++ l) h.1.others ∙ append-nil h.1.taken) ∙ sym (append-nil (h.1.taken ++ more));
    says = record_all h.0 (event ∷ []) h.1.taken more h.1.says says;
    others = refl;
  },
)
event_more grows longest lines (Some last) text more event h says = record {
  has = record {
    front = h.has.front;
    behind = h.has.behind ++ more;
    events = h.has.events;
    segments = h.has.segments;
    taken = h.has.taken ++ event ∷ [];
    cut = ap (λ (l : List ℕ). l ++ more) h.has.cut ∙ append_assoc h.has.front h.has.behind more;
    says = h.has.says;
    last = grows [] (record { configuration = last.text; events = h.has.taken }) (event ∷ []) h.has.behind more h.has.last says;
  };
  short = h.short;
  begins = h.begins;
}

-- events and segments
record Said (text : List ℕ) : Type 0 where
  events : List Event
  segments : List Segment
  says : SaysWhole events segments text

pub says_more : SegmentTextsJoin → (events : List Event) (segments others : List Segment) (text more : List ℕ) → SaysWhole events segments text → SaysSegments others more
    → SaysWhole events (segments ++ others) (text ++ more)
says_more join events segments others text more h k = record {
  taken = h.taken;
  rest = h.rest ++ more;
  cut = ap (λ (t : List ℕ). t ++ more) h.cut ∙ append_assoc h.taken h.rest more;
  says = h.says;
  others = join segments others h.rest more h.others k;
}

said_of : SegmentTextsJoin → (longest lines : ℕ) (last : Option LastText) (text : List ℕ) → IsLastOf longest lines last text → Said text
said_of join longest lines None text h = record { events = h.0; segments = []; says = h.1 }
said_of join longest lines (Some last) text h =
    let newest : Segment = record { configuration = last.text; events = h.has.taken } in
    record {
      events = h.has.events;
      segments = h.has.segments ++ newest ∷ [];
      says = subst (λ (l : List ℕ). SaysWhole h.has.events (h.has.segments ++ newest ∷ []) l) (sym h.has.cut)
          (says_more join h.has.events h.has.segments (newest ∷ []) h.has.front h.has.behind h.has.says h.has.last);
    }

-- a configuration begins the last segment
text_more : SegmentTextsJoin → SegmentBegins → (longest lines : ℕ) (part rest : Reading) (middle after : Option (List ℕ)) (last : Option LastText) (newer : LastText)
    (text : List ℕ) → IsLastOf longest lines last text
    → part.number ≡ lines + count_by is_end text → (h : ReadsText longest part rest middle after newer) → IsLastText longest lines newer (text ++ h.gives.text)
text_more join begins longest lines part rest middle after last newer text is counted h =
    let said = said_of join longest lines last text is in
    let begun : Segment = record { configuration = newer.text; events = [] } in
    record {
      has = record {
        front = text;
        behind = h.gives.text;
        events = said.events;
        segments = said.segments;
        taken = [];
        cut = refl;
        says = said.says;
        last = subst (λ (l : List ℕ). SaysSegments (begun ∷ []) l) (append-nil h.gives.text) (begins begun h.gives.text [] h.gives.says refl);
      };
      short = h.short;
      begins = h.begins ∙ ap (λ n. n + 1) counted;
    }

numbers_add : (old mid new : ℕ) (text more : List ℕ) → mid ≡ old + count_by is_end text → new ≡ mid + count_by is_end more → new ≡ old + count_by is_end (text ++ more)
numbers_add old mid new text more h k = let sum : count_by is_end (text ++ more) ≡ count_by is_end text + count_by is_end more =
    sum_by-append (λ b. cond (is_end b) 1 0) text more in omega (arith, h, k, sum)

part_more : SegmentTextsJoin → SegmentBegins → SegmentGrows → (longest lines : ℕ) (found : RecordPart) (part rest : Reading) (before middle after : Option (List ℕ))
    (last : Option LastText) → SoFar longest before (pending part middle) lines part.number last
    → GivesPart longest part rest middle after found → SoFar longest before (pending rest after) lines rest.number (last_behind found last)
part_more join begins grows longest lines parts.Event part rest before middle after last s h =
    let given = h.gives.given in
    record {
      text = s.text ++ given.text;
      is = event_more grows longest lines last s.text given.text h.event s.is (record_one given.text h.event h.gives.recorded);
      consumes = Consumes-trans before (pending part middle) (pending rest after) s.text given.text s.consumes given.consumes;
      counted = numbers_add lines part.number rest.number s.text given.text s.counted given.number;
    }
part_more join begins grows longest lines (parts.Configuration newer) part rest before middle after last s h = record {
  text = s.text ++ h.gives.text;
  is = text_more join begins longest lines part rest middle after last newer s.text s.is s.counted h;
  consumes = Consumes-trans before (pending part middle) (pending rest after) s.text h.gives.text s.consumes h.gives.consumes;
  counted = numbers_add lines part.number rest.number s.text h.gives.text s.counted h.gives.number;
}

-- in the loop
pub so_far_more : SegmentTextsJoin → SegmentBegins → SegmentGrows → (longest lines : ℕ) (found : RecordPart) (part rest : Reading) (before middle after : Option (List ℕ))
    (last newest : Option LastText) → newest ≡ last_behind found last
    → SoFar longest before (pending part middle) lines part.number last → GivesPart longest part rest middle after found
    → SoFar longest before (pending rest after) lines rest.number newest
so_far_more join begins grows longest lines found part rest before middle after last newest same s h =
    subst (λ (l : Option LastText). SoFar longest before (pending rest after) lines rest.number l) (sym same)
    (part_more join begins grows longest lines found part rest before middle after last s h)

pub fewer_asks : (new mid old : ℕ) → new ≤ mid → mid ≤ old → new ≤ old
fewer_asks new mid old h k = omega (arith, h, k)

-- ---- refusals

is_behind : (Is : List ℕ → Type 0) (before rest : Option (List ℕ)) (text : List ℕ) → Consumes before rest text → IfSome rest Is
    → IfSome before (λ bytes. (further : List ℕ) × (bytes ≡ text ++ further) × Is further)
is_behind Is None rest text h is = tt
is_behind Is (Some xs) None text h is = absurd h
is_behind Is (Some xs) (Some ys) text h is = (ys, h, is)

so_behind : SegmentTextsJoin → (Is : List ℕ → Type 0) (longest lines lines_then line : ℕ) (before rest : Option (List ℕ)) (last : Option LastText)
    → SoFar longest before rest lines lines_then last → IfSome rest Is → line ≡ lines_then + 1
    → IsSoBehind before lines line Is
so_behind join Is longest lines lines_then line before rest last s is at =
    let said = said_of join longest lines last s.text s.is in
    record {
      text = s.text;
      events = said.events;
      segments = said.segments;
      says = said.says;
      is = is_behind Is before rest s.text s.consumes is;
      begins = at ∙ ap (λ n. n + 1) s.counted;
    }

pub stops_so : SegmentTextsJoin → (longest lines lines_then : ℕ) (F : Type 0) (before rest : Option (List ℕ)) (last : Option LastText) (stop : SegmentStop)
    → SoFar longest before rest lines lines_then last
    → PartStops IsDamagedPart longest F rest lines_then stop → LastStops longest F before lines stop
stops_so join longest lines lines_then F before rest last stops.NoMemory s h = tt
stops_so join longest lines lines_then F before rest last (stops.Damaged line) s h = so_behind join IsDamagedPart longest lines lines_then line before rest last s h.0 h.1
stops_so join longest lines lines_then F before rest last (stops.Cut line) s h = absurd h
stops_so join longest lines lines_then F before rest last stops.Read s h = h
stops_so join longest lines lines_then F before rest last (stops.TooLong line) s h = so_behind join (IsLongConfiguration longest) longest lines lines_then line before
    rest last s h.0 h.1
stops_so join longest lines lines_then F before rest last (stops.NoConfiguration line e) s h = absurd h
stops_so join longest lines lines_then F before rest last (stops.OtherFrame line key) s h = absurd h

-- ---- what the last text states

abbrev last_has : (longest lines : ℕ) (rest : Option (List ℕ)) (last : LastText) → SaysToEnd rest (IsLastText longest lines last) → SaysToEnd rest (HasLast last.text)
last_has longest lines rest last s = record { text = s.text; further = s.further; whole = s.whole; says = s.says.has; ends = s.ends }

unstated : (longest lines : ℕ) (F : Type 0) (rest : Option (List ℕ)) (last : LastText) (stop : SegmentStop) → SaysToEnd rest (IsLastText longest lines last)
    → TextStops last.text last.first stop → LastStops longest F rest lines stop
unstated longest lines F rest last stops.NoMemory s h = tt
unstated longest lines F rest last (stops.Damaged line) s h = absurd h
unstated longest lines F rest last (stops.Cut line) s h = absurd h
unstated longest lines F rest last stops.Read s h = absurd h
unstated longest lines F rest last (stops.TooLong line) s h = absurd h
unstated longest lines F rest last (stops.NoConfiguration line e) s h = record {
  bytes = last.text;
  ends = last_has longest lines rest last s;
  begins = h.1 ∙ s.says.begins;
  none = h.0;
}
unstated longest lines F rest last (stops.OtherFrame line key) s h = absurd h

pub last_unstated : (longest lines : ℕ) (F : Type 0) (rest : Option (List ℕ)) (found : Option LastText) (last : LastText) (bytes : List ℕ) (stop : SegmentStop)
    → found ≡ Some last → SaysToEnd rest (IsLastOf longest lines found) → bytes ≡ last.text
    → TextStops bytes last.first stop → LastStops longest F rest lines stop
last_unstated longest lines F rest found last bytes stop is s same h =
    let known : SaysToEnd rest (IsLastOf longest lines (Some last)) = subst (λ (f : Option LastText). SaysToEnd rest (IsLastOf longest lines f)) is s in
    unstated longest lines F rest last stop known (subst (λ (l : List ℕ). TextStops l last.first stop) same h)
