-- A text that says events and segments, in front of more that is said: what is said of both. And that no such text is cut.
use Rattle.std.proofs.Common.{◌≡◌, ◌≢◌, ◌⊎◌, inl, inr, ◌∙◌, ℕ, List, [], ◌∷◌, ◌++◌, length, append_assoc, append-nil, refl, sym, ap, ap₂, arith}
use Rattle.std.proofs.lemmas.List.{append_cancel_left}
use Rattle.sip_event.specs.declared.event.Event.{Event}
use Rattle.sip_replay_script.specs.Events.{SaysEvent, ended}
use Rattle.sip_replay_script.specs.Recorded.{IsCutRecord, SaysRecord, SaysRecorded}
use Rattle.sip_journal.specs.Configurations.{IsCutConfiguration}
use Rattle.sip_journal.specs.Segments.{SaysConfiguration, SaysSegments, SaysWhole, Segment, configuration_line}
use Rattle.sip_segment_config.specs.Last.{EndsCut}
use Rattle.sip_replay.proofs.Joining.{grown, joined}

-- how a text is read: what comes next is one event, or one configuration, and no event is a configuration
pub record Readings : Type 0 where
  pub one : (text other more further : List ℕ) (event second : Event) → SaysEvent text event → SaysEvent other second → text ++ more ≡ other ++ further
      → (text ≡ other) × (event ≡ second)
  pub something : (text : List ℕ) (event : Event) → SaysEvent text event → text ≢ []
  pub recorded : (text : List ℕ) (event : Event) → SaysRecorded text event → SaysEvent text event
  pub one_configuration : (text other more further configuration second : List ℕ) → SaysConfiguration text configuration → SaysConfiguration other second
      → text ++ more ≡ other ++ further → (text ≡ other) × (configuration ≡ second)
  pub no_event : (text other more further configuration : List ℕ) (event : Event) → SaysConfiguration text configuration → SaysEvent other event
      → text ++ more ≡ other ++ further → ⊥

front_is : (front xs : List ℕ) → [] ≡ front ++ xs → front ≡ []
front_is [] xs e = refl
front_is (b ∷ front) xs e = absurd (omega (arith, ap length e))

-- a configuration's text isn't empty
configuration_some : (text configuration more : List ℕ) → SaysConfiguration text configuration → [] ≡ text ++ more → ⊥
configuration_some text configuration more says e = by_text (says.front) (sym (front_is text more e) ∙ says.text_is) where
  by_line : (line : List ℕ) → [] ≡ ended line → ⊥
  by_line [] e = absurd (omega (arith, ap length e))
  by_line (b ∷ line) e = absurd (omega (arith, ap length e))

  by_text : (front : List ℕ) → [] ≡ front ++ ended (configuration_line configuration) → ⊥
  by_text [] e = by_line (configuration_line configuration) e
  by_text (b ∷ front) e = absurd (omega (arith, ap length e))

-- no event stands where segments do
none_here : Readings → (whole : List Segment) (text first further : List ℕ) (event : Event) → SaysSegments whole text → SaysEvent first event → text ≡ first ++ further
    → ⊥
none_here r [] text first further event h says e = r.something first event says (front_is first further (sym h ∙ e))
none_here r (segment ∷ whole) text first further event h says e = r.no_event h.first first (h.taken ++ h.rest) further segment.configuration event h.configured says
    (sym h.cut ∙ e)

-- ---- events

-- all events are these and more, which are said by the first of what is behind
record SplitEvents (events all : List Event) (rest behind : List ℕ) : Type 0 where
  more : List Event
  taken : List ℕ
  all_is : all ≡ events ++ more
  says : SaysRecord more taken
  rest_is : rest ≡ taken ++ behind

events_split : Readings → (events all : List Event) (whole : List Segment) (text rest other behind : List ℕ) → SaysRecord events text → SaysRecord all other
    → SaysSegments whole behind → text ++ rest ≡ other ++ behind → SplitEvents events all rest behind
events_split r [] all whole text rest other behind h k segments e =
    record { more = all; taken = other; all_is = refl; says = k; rest_is = ap (λ (l : List ℕ). l ++ rest) (sym h) ∙ e }
events_split r (event ∷ events) [] whole text rest other behind h k segments e =
    absurd (none_here r whole behind h.first (h.rest ++ rest) event segments (r.recorded h.first event h.says)
    (ap (λ (l : List ℕ). l ++ behind) (sym k) ∙ sym e ∙ ap (λ (l : List ℕ). l ++ rest) h.cut ∙ append_assoc h.first h.rest rest))
events_split r (event ∷ events) (second ∷ all) whole text rest other behind h k segments e =
    let both : h.first ++ (h.rest ++ rest) ≡ k.first ++ (k.rest ++ behind) =
    sym (ap (λ (l : List ℕ). l ++ rest) h.cut ∙ append_assoc h.first h.rest rest) ∙ e ∙ ap (λ (l : List ℕ). l ++ behind) k.cut ∙ append_assoc k.first k.rest behind in
    let same = r.one h.first k.first (h.rest ++ rest) (k.rest ++ behind) event second (r.recorded h.first event h.says) (r.recorded k.first second k.says) both in
    let left : h.rest ++ rest ≡ k.rest ++ behind = append_cancel_left k.first (h.rest ++ rest) (k.rest ++ behind)
    (ap (λ (l : List ℕ). l ++ (h.rest ++ rest)) (sym same.0) ∙ both) in
    let so : SplitEvents events all rest behind = events_split r events all whole h.rest rest k.rest behind h.others k.others segments left in
    record { more = so.more; taken = so.taken; all_is = ap₂ (λ (x : Event) (xs : List Event). x ∷ xs) (sym same.1) so.all_is; says = so.says; rest_is = so.rest_is }

-- none, where a configuration comes first
record NoneMore (more : List Event) (text behind : List ℕ) : Type 0 where
  none : more ≡ []
  same : text ≡ behind

none_more : Readings → (more : List Event) (first text taken behind configuration : List ℕ) → SaysConfiguration first configuration → SaysRecord more taken
    → first ++ text ≡ taken ++ behind → NoneMore more (first ++ text) behind
none_more r [] first text taken behind configuration configured says e = record { none = refl; same = e ∙ ap (λ (l : List ℕ). l ++ behind) says }
none_more r (event ∷ more) first text taken behind configuration configured says e =
    absurd (r.no_event first says.first text (says.rest ++ behind) configuration event configured (r.recorded says.first event says.says)
    (e ∙ ap (λ (l : List ℕ). l ++ behind) says.cut ∙ append_assoc says.first says.rest behind))

-- ---- all of it

-- all is these events and segments, and what the rest says behind them
pub record GoesOn (events : List Event) (segments : List Segment) (all : List Event) (whole : List Segment) (rest : List ℕ) : Type 0 where
  pub more : List Event
  pub others : List Segment
  pub says : SaysWhole more others rest
  pub events_are : all ≡ grown events segments more
  pub segments_are : whole ≡ joined segments more others

segment_is : (segment other : Segment) → segment.configuration ≡ other.configuration → segment.events ≡ other.events → segment ≡ other
segment_is segment other c e = ap₂ (λ (l : List ℕ) (es : List Event). let s : Segment = record { configuration = l; events = es } in s) c e

segments_joined : (segment second : Segment) (segments whole : List Segment) (more : List Event) (others : List Segment) → segment.configuration ≡ second.configuration
    → second.events ≡ grown segment.events segments more → whole ≡ joined segments more others
    → second ∷ whole ≡ joined (segment ∷ segments) more others
segments_joined segment second segments whole more others c e is =
    ap₂ (λ (x : Segment) (xs : List Segment). x ∷ xs) (segment_is second (record { configuration = segment.configuration; events = grown segment.events segments more })
    (sym c) e) is

pub says_on : Readings → (events all : List Event) (segments whole : List Segment) (text rest : List ℕ) → SaysWhole events segments text
    → SaysWhole all whole (text ++ rest) → GoesOn events segments all whole rest
says_on r events all [] whole text rest h k =
    let text_is : text ≡ h.taken = h.cut ∙ ap (λ (l : List ℕ). h.taken ++ l) h.others ∙ append-nil h.taken in
    let so : SplitEvents events all rest k.rest = events_split r events all whole h.taken rest k.taken k.rest h.says k.says k.others
    (ap (λ (l : List ℕ). l ++ rest) (sym text_is) ∙ k.cut) in
    record {
      more = so.more;
      others = whole;
      says = record { taken = so.taken; rest = k.rest; cut = so.rest_is; says = so.says; others = k.others };
      events_are = so.all_is;
      segments_are = refl;
    }
says_on r events all (segment ∷ segments) whole text rest h k =
    let first = h.others in
    let so : SplitEvents events all (h.rest ++ rest) k.rest = events_split r events all whole h.taken (h.rest ++ rest) k.taken k.rest h.says k.says k.others
    (sym (append_assoc h.taken h.rest rest) ∙ ap (λ (l : List ℕ). l ++ rest) (sym h.cut) ∙ k.cut) in
    let cut : h.rest ++ rest ≡ first.first ++ ((first.taken ++ first.rest) ++ rest) = ap (λ (l : List ℕ). l ++ rest) first.cut
    ∙ append_assoc first.first (first.taken ++ first.rest) rest in
    let none : NoneMore so.more (first.first ++ ((first.taken ++ first.rest) ++ rest)) k.rest =
    none_more r so.more first.first ((first.taken ++ first.rest) ++ rest) so.taken k.rest segment.configuration first.configured so.says (sym cut ∙ so.rest_is) in
    let events_are : all ≡ events = so.all_is ∙ ap (λ (es : List Event). events ++ es) none.none ∙ append-nil events in
    let inner : SaysWhole segment.events segments (first.taken ++ first.rest) = record {
      taken = first.taken;
      rest = first.rest;
      cut = refl;
      says = first.says;
      others = first.others;
    } in
    by_whole whole k.others none.same events_are (λ second behind said. says_on r segment.events second segments behind (h.others.taken ++ h.others.rest) rest inner
    said) where
      by_whole : (whole : List Segment) → SaysSegments whole k.rest → h.others.first ++ ((h.others.taken ++ h.others.rest) ++ rest) ≡ k.rest → all ≡ events
          → ((second : List Event) (behind : List Segment) → SaysWhole second behind ((h.others.taken ++ h.others.rest) ++ rest)
          → GoesOn segment.events segments second behind rest) → GoesOn events (segment ∷ segments) all whole rest
      by_whole [] others e events_are further = absurd (configuration_some h.others.first segment.configuration ((h.others.taken ++ h.others.rest) ++ rest)
          h.others.configured (sym (e ∙ others)))
      by_whole (second ∷ whole) others e events_are further =
          let both : h.others.first ++ ((h.others.taken ++ h.others.rest) ++ rest) ≡ others.first ++ (others.taken ++ others.rest) = e ∙ others.cut in
          let same = r.one_configuration h.others.first others.first ((h.others.taken ++ h.others.rest) ++ rest) (others.taken ++ others.rest) segment.configuration
          second.configuration h.others.configured others.configured both in
          let left : (h.others.taken ++ h.others.rest) ++ rest ≡ others.taken ++ others.rest =
          append_cancel_left others.first ((h.others.taken ++ h.others.rest) ++ rest) (others.taken ++ others.rest)
          (ap (λ (l : List ℕ). l ++ ((h.others.taken ++ h.others.rest) ++ rest)) (sym same.0) ∙ both) in
          let so : GoesOn segment.events segments second.events whole rest = further second.events whole
          (record { taken = others.taken; rest = others.rest; cut = left; says = others.says; others = others.others }) in
          record {
            more = so.more;
            others = so.others;
            says = so.says;
            events_are = events_are;
            segments_are = segments_joined segment second segments whole so.more so.others same.1 so.events_are so.segments_are;
          }

-- ---- no cut

-- what stands first
record FirstEvent (text : List ℕ) : Type 0 where
  first : List ℕ
  rest : List ℕ
  event : Event
  cut : text ≡ first ++ rest
  says : SaysEvent first event

record FirstConfiguration (text : List ℕ) : Type 0 where
  first : List ℕ
  rest : List ℕ
  configuration : List ℕ
  cut : text ≡ first ++ rest
  says : SaysConfiguration first configuration

first_of : Readings → (events : List Event) (segments : List Segment) (text : List ℕ) → SaysWhole events segments text
    → (text ≡ []) ⊎ (FirstEvent text ⊎ FirstConfiguration text)
first_of r [] [] text k = inl (k.cut ∙ ap₂ (λ (a b : List ℕ). a ++ b) k.says k.others)
first_of r [] (segment ∷ segments) text k = inr (inr (record {
  first = k.others.first;
  rest = k.others.taken ++ k.others.rest;
  configuration = segment.configuration;
  cut = k.cut ∙ ap (λ (l : List ℕ). l ++ k.rest) k.says ∙ k.others.cut;
  says = k.others.configured;
}))
first_of r (event ∷ events) segments text k = inr (inl (record {
  first = k.says.first;
  rest = k.says.rest ++ k.rest;
  event = event;
  cut = k.cut ∙ ap (λ (l : List ℕ). l ++ k.rest) k.says.cut ∙ append_assoc k.says.first k.says.rest k.rest;
  says = r.recorded k.says.first event k.says.says;
}))

tail_is : (rest more : List ℕ) → [] ≡ rest ++ more → more ≡ []
tail_is [] more e = sym e
tail_is (b ∷ rest) more e = absurd (omega (arith, ap length e))

nothing_behind : (first rest more : List ℕ) → first ≡ (first ++ rest) ++ more → more ≡ []
nothing_behind first rest more e = tail_is rest more (append_cancel_left first [] (rest ++ more) (append-nil first ∙ e ∙ append_assoc first rest more))

-- the first of a text that goes on, as one text
first_cut : (text first rest more : List ℕ) → text ≡ first ++ rest → first ++ (rest ++ more) ≡ (text ++ more) ++ []
first_cut text first rest more cut = sym (append_assoc first rest more) ∙ ap (λ (l : List ℕ). l ++ more) (sym cut) ∙ sym (append-nil (text ++ more))

no_cut_event : Readings → (text : List ℕ) → IsCutRecord text → FirstEvent text ⊎ FirstConfiguration text → ⊥
no_cut_event r text c (inl f) =
    let same = r.one f.first (text ++ c.more) (f.rest ++ c.more) [] f.event c.event f.says (r.recorded (text ++ c.more) c.event c.says)
    (first_cut text f.first f.rest c.more f.cut) in
    c.cut (nothing_behind f.first f.rest c.more (same.0 ∙ ap (λ (l : List ℕ). l ++ c.more) f.cut))
no_cut_event r text c (inr f) =
    r.no_event f.first (text ++ c.more) (f.rest ++ c.more) [] f.configuration c.event f.says (r.recorded (text ++ c.more) c.event c.says)
    (first_cut text f.first f.rest c.more f.cut)

no_cut_configuration : Readings → (text : List ℕ) → IsCutConfiguration text → FirstEvent text ⊎ FirstConfiguration text → ⊥
no_cut_configuration r text c (inl f) = r.no_event (text ++ c.more) f.first [] (f.rest ++ c.more) c.configuration f.event c.says f.says
    (sym (first_cut text f.first f.rest c.more f.cut))
no_cut_configuration r text c (inr f) =
    let same = r.one_configuration f.first (text ++ c.more) (f.rest ++ c.more) [] f.configuration c.configuration f.says c.says
    (first_cut text f.first f.rest c.more f.cut) in
    c.cut (nothing_behind f.first f.rest c.more (same.0 ∙ ap (λ (l : List ℕ). l ++ c.more) f.cut))

ends_by : Readings → (text : List ℕ) → (text ≡ []) ⊎ (FirstEvent text ⊎ FirstConfiguration text) → EndsCut text → text ≡ []
ends_by r text (inl none) ends = none
ends_by r text (inr f) (inl none) = none
ends_by r text (inr f) (inr (inl c)) = absurd (no_cut_event r text c f)
ends_by r text (inr f) (inr (inr c)) = absurd (no_cut_configuration r text c f)

-- a text that says events and segments is taken whole: it has no cut end
pub taken_whole : Readings → (events all : List Event) (segments whole : List Segment) (text further : List ℕ) → SaysWhole events segments text
    → SaysWhole all whole (text ++ further) → EndsCut further → further ≡ []
taken_whole r events all segments whole text further h k ends =
    let on : GoesOn events segments all whole further = says_on r events all segments whole text further h k in
    ends_by r further (first_of r on.more on.others further on.says) ends
