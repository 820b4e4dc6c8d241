-- A record says its segments in one way.
use Rattle.std.proofs.Common.{◌≡◌, ℕ, suc, ◌+◌, ◌*◌, List, [], ◌∷◌, ◌++◌, length, drop, Bool, true, false, Option, Some, None, inl, inr, refl, sym, ◌∙◌, ap, ap₂, subst}
use Rattle.std.proofs.Common.{arith, append-nil, append_assoc, length-append}
use Rattle.std.proofs.lemmas.Bool.{eqb-true}
use Rattle.std.proofs.lemmas.List.Sums.{sum_by-cons}
use Rattle.std.specs.Prelude.{◌⊎◌, nat_eq, count_by, cond, codes, All, if◌then◌else◌}
use Rattle.std.specs.List.{flat_map, starts_with}
use Rattle.std.proofs.lemmas.Bool.Decides.{Decides-eqb}
use Rattle.std.proofs.lemmas.Grind.{flat_map-append}
use Rattle.std.proofs.lemmas.List.{append_cancel_left}
use Rattle.std.proofs.lemmas.List.Elements.{All-append, All-push}
use Rattle.std.proofs.lemmas.Slice.Eq.{starts_is}
use Rattle.hex.specs.Hex.{encode_lower}
use Rattle.hex.proofs.HexLemmas.{length-encode_with}
use Rattle.hex.specs.Hex.{lower_digits}
use Rattle.sha2.specs.Sha256.{sha256}
use Rattle.sha2.proofs.Facts256.{length-sha256}
use Rattle.sip_event.specs.declared.event.Event.{Event}
use Rattle.sip_replay_script.specs.declared.script.EventLine.{EventLine}
use Rattle.sip_replay_script.specs.declared.script.EventLine.TheVariants.{Head, Whole}
use Rattle.sip_replay_script.specs.Lines.{IsLine, is_end}
use Rattle.sip_replay_script.specs.Script.{line_of, ◌>>=◌}
use Rattle.sip_replay_script.specs.Events.{ended, SaysEvent}
use Rattle.sip_replay_script.specs.Recorded.{SaysRecord}
use Rattle.sip_journal.specs.Segments.{configuration_line, piece_of, pieces_of, GivesText, SaysConfiguration, SaysSegments, SaysWhole, Segment}
use Rattle.sip_replay_script.proofs.LineEnds.{ends_add}
use Rattle.sip_replay_script.proofs.OneReading.{same_event, same_line, says_something}
use Rattle.sip_replay_script.proofs.RecordTexts.{record_all}
use Rattle.sip_replay_script.proofs.WrittenEvents.{encoded_others, no_end, recorded_says}

-- ---- a line

-- what a line of a piece begins with
pub record IsPiece (line piece : List ℕ) : Type 0 where
  pub bytes : List ℕ
  pub is : ((line ≡ 61 ∷ 32 ∷ bytes) × (piece ≡ ended bytes)) ⊎ ((line ≡ 43 ∷ 32 ∷ bytes) × (piece ≡ bytes))

some_same : {A : Type 0} (x y : A) → Some x ≡ Some y → x ≡ y
some_same x y e = cc

pub piece_is : (line piece : List ℕ) → piece_of line ≡ Some piece → IsPiece line piece
piece_is line piece e = by_tests (starts_with nat_eq line (codes "= ")) (starts_with nat_eq line (codes "+ ")) refl refl e
  where
    by_tests : (s t : Bool) → s ≡ starts_with nat_eq line (codes "= ") → t ≡ starts_with nat_eq line (codes "+ ")
        → (if s then Some (ended (drop 2 line)) else if t then Some (drop 2 line) else None) ≡ Some piece → IsPiece line piece
    by_tests true t is_s is_t h =
        record { bytes = drop 2 line; is = inl ((starts_is Decides-eqb line (codes "= ") true is_s).0 refl, sym (some_same (ended (drop 2 line)) piece h)) }
    by_tests false true is_s is_t h =
        record { bytes = drop 2 line; is = inr ((starts_is Decides-eqb line (codes "+ ") true is_t).0 refl, sym (some_same (drop 2 line) piece h)) }
    by_tests false false is_s is_t h = absurd cc

-- it begins no event
piece_no_event : (line piece : List ℕ) → piece_of line ≡ Some piece → line_of line ≡ None
piece_no_event line piece e = by_kind (piece_is line piece e)
  where
    by_kind : IsPiece line piece → line_of line ≡ None
    by_kind p = elim p.is [ inl a ↦ ap line_of a.0 | inr b ↦ ap line_of b.0 ]

configuration_no_event : (configuration : List ℕ) → line_of (configuration_line configuration) ≡ None
configuration_no_event configuration = refl

pub configuration_no_piece : (configuration : List ℕ) → piece_of (configuration_line configuration) ≡ None
configuration_no_piece configuration = refl

pub configuration_is_line : (configuration : List ℕ) → IsLine (configuration_line configuration)
configuration_is_line configuration = record {
  short =
      let digits : length (encode_lower (sha256 configuration)) ≡ 2 * length (sha256 configuration) = length-encode_with lower_digits (sha256 configuration) in
      let size : length (sha256 configuration) ≡ 32 = length-sha256 configuration in
      let all : length (configuration_line configuration) ≡ 14 + length (encode_lower (sha256 configuration)) =
      length-append (codes "configuration ") (encode_lower (sha256 configuration)) in
      omega (arith, digits, size, all);
  single =
      let sum : count_by is_end (configuration_line configuration) ≡ count_by is_end (codes "configuration ") + count_by is_end (encode_lower (sha256 configuration)) =
      ends_add (codes "configuration ") (encode_lower (sha256 configuration)) in
      let front : count_by is_end (codes "configuration ") ≡ 0 = refl in
      let behind : count_by is_end (encode_lower (sha256 configuration)) ≡ 0 = no_end (encode_lower (sha256 configuration))
      (encoded_others 10 refl refl (sha256 configuration)) in
      omega (arith, sum, front, behind);
}

-- ---- lines that give a text

pub first_is_line : (line : List ℕ) (lines : List (List ℕ)) → All IsLine (line ∷ lines) → IsLine line
first_is_line line lines are = are 0 line (omega arith)

pub others_are_lines : (line : List ℕ) (lines : List (List ℕ)) → All IsLine (line ∷ lines) → All IsLine lines
others_are_lines line lines are = λ k d lt. are (suc k) d (omega (arith, lt))

-- what the first of them gives, and the others
pub record Parted (line : List ℕ) (lines : List (List ℕ)) (given : List ℕ) : Type 0 where
  pub piece : List ℕ
  pub others : List ℕ
  pub first : piece_of line ≡ Some piece
  pub behind : pieces_of lines ≡ Some others
  pub is : given ≡ piece ++ others

pub parted : (line : List ℕ) (lines : List (List ℕ)) (given : List ℕ) → pieces_of (line ∷ lines) ≡ Some given → Parted line lines given
parted line lines given e = by_both (piece_of line) (pieces_of lines) refl refl e
  where
    by_both : (p o : Option (List ℕ)) → piece_of line ≡ p → pieces_of lines ≡ o → (p >>= (λ piece. o >>= (λ others. Some (piece ++ others)))) ≡ Some given
        → Parted line lines given
    by_both None o is_p is_o h = absurd cc
    by_both (Some piece) None is_p is_o h = absurd cc
    by_both (Some piece) (Some others) is_p is_o h = record {
      piece = piece;
      others = others;
      first = is_p;
      behind = is_o;
      is = sym (some_same (piece ++ others) given h);
    }

together : (line : List ℕ) (lines : List (List ℕ)) (piece others : List ℕ) → piece_of line ≡ Some piece → pieces_of lines ≡ Some others
    → pieces_of (line ∷ lines) ≡ Some (piece ++ others)
together line lines piece others first behind = rw (first, behind) refl

pub pieces_join : (lines more : List (List ℕ)) (given others : List ℕ) → pieces_of lines ≡ Some given → pieces_of more ≡ Some others
    → pieces_of (lines ++ more) ≡ Some (given ++ others)
pieces_join [] more given others h k = k ∙ ap (λ (l : List ℕ). Some (l ++ others)) (some_same [] given h)
pieces_join (line ∷ lines) more given others h k =
    let p = parted line lines given h in
    together line (lines ++ more) p.piece (p.others ++ others) p.first (pieces_join lines more p.others others p.behind k)
    ∙ ap (λ (l : List ℕ). Some l) (sym (append_assoc p.piece p.others others) ∙ ap (λ (l : List ℕ). l ++ others) (sym p.is))

pub gives_nothing : GivesText [] []
gives_nothing = record { lines = []; are_lines = λ k d lt. absurd (omega arith); text_is = refl; gives = refl }

pub gives_both : (text more given others : List ℕ) → GivesText text given → GivesText more others → GivesText (text ++ more) (given ++ others)
gives_both text more given others a b = record {
  lines = a.lines ++ b.lines;
  are_lines = All-append IsLine a.lines b.lines a.are_lines b.are_lines;
  text_is = ap₂ (λ (l m : List ℕ). l ++ m) a.text_is b.text_is ∙ sym (flat_map-append ended a.lines b.lines);
  gives = pieces_join a.lines b.lines given others a.gives b.gives;
}

pub gives_one : (line piece : List ℕ) → IsLine line → piece_of line ≡ Some piece → GivesText (ended line) piece
gives_one line piece is_line gives = record {
  lines = line ∷ [];
  are_lines = All-push IsLine [] line (λ k d lt. absurd (omega arith)) is_line;
  text_is = sym (append-nil (ended line));
  gives = together line [] piece [] gives refl ∙ ap (λ (l : List ℕ). Some l) (append-nil piece);
}

-- ---- one configuration

-- the same lines stand in front of a line that gives no piece
pub record SameFront (lines others : List (List ℕ)) (last end more further : List ℕ) : Type 0 where
  pub front : lines ≡ others
  pub line : last ≡ end
  pub rest : more ≡ further

meet : (a b x y : List ℕ) → count_by is_end a ≡ 0 → count_by is_end b ≡ 0 → ended a ++ x ≡ ended b ++ y → (a ≡ b) × (x ≡ y)
meet a b x y none_a none_b h = same_line a b x y none_a none_b h

pub gives_no_piece : (line piece end : List ℕ) → piece_of line ≡ Some piece → piece_of end ≡ None → line ≡ end → ⊥
gives_no_piece line piece end gives none same = absurd (let e : piece_of line ≡ piece_of end = ap piece_of same in cc)

same_front : (lines others : List (List ℕ)) (last end more further given given_others : List ℕ) → All IsLine lines → All IsLine others → pieces_of lines ≡ Some given
    → pieces_of others ≡ Some given_others
    → IsLine last → IsLine end → piece_of last ≡ None → piece_of end ≡ None → flat_map ended lines ++ (ended last ++ more) ≡ flat_map ended others
    ++ (ended end ++ further) → SameFront lines others last end more further
same_front [] [] last end more further given given_others are are_others h k is_last is_end_line none none_end e =
    let same = meet last end more further is_last.single is_end_line.single e in
    record { front = refl; line = same.0; rest = same.1 }
same_front [] (m ∷ others) last end more further given given_others are are_others h k is_last is_end_line none none_end e =
    let p = parted m others given_others k in
    absurd (gives_no_piece m p.piece last p.first none
    (sym (meet last m more (flat_map ended others ++ (ended end ++ further)) is_last.single (first_is_line m others are_others).single
    (e ∙ append_assoc (ended m) (flat_map ended others) (ended end ++ further))).0))
same_front (l ∷ lines) [] last end more further given given_others are are_others h k is_last is_end_line none none_end e =
    let p = parted l lines given h in
    absurd (gives_no_piece l p.piece end p.first none_end
    (meet l end (flat_map ended lines ++ (ended last ++ more)) further (first_is_line l lines are).single is_end_line.single
    (sym (append_assoc (ended l) (flat_map ended lines) (ended last ++ more)) ∙ e)).0)
same_front (l ∷ lines) (m ∷ others) last end more further given given_others are are_others h k is_last is_end_line none none_end e =
    let p = parted l lines given h in
    let q = parted m others given_others k in
    let first = meet l m (flat_map ended lines ++ (ended last ++ more)) (flat_map ended others ++ (ended end ++ further)) (first_is_line l lines are).single
    (first_is_line m others are_others).single
    (sym (append_assoc (ended l) (flat_map ended lines) (ended last ++ more)) ∙ e ∙ append_assoc (ended m) (flat_map ended others) (ended end ++ further)) in
    let rest = same_front lines others last end more further p.others q.others (others_are_lines l lines are) (others_are_lines m others are_others) p.behind q.behind
    is_last is_end_line none none_end first.1 in
    record { front = ap₂ (λ (x : List ℕ) (xs : List (List ℕ)). x ∷ xs) first.0 rest.front; line = rest.line; rest = rest.rest }

-- a configuration's text as its lines
spread : (text configuration more : List ℕ) → (says : SaysConfiguration text configuration)
    → text ++ more ≡ flat_map ended says.gives.lines ++ (ended (configuration_line configuration) ++ more)
spread text configuration more says =
    ap (λ (l : List ℕ). l ++ more) (says.text_is ∙ ap (λ (l : List ℕ). l ++ ended (configuration_line configuration)) says.gives.text_is)
    ∙ append_assoc (flat_map ended says.gives.lines) (ended (configuration_line configuration)) more

pub record SameConfiguration (text other more further configuration second : List ℕ) : Type 0 where
  pub text_is : text ≡ other
  pub rest : more ≡ further
  pub configuration_is : configuration ≡ second

pub same_configuration : (text other more further configuration second : List ℕ) → SaysConfiguration text configuration → SaysConfiguration other second
    → text ++ more ≡ other ++ further
    → SameConfiguration text other more further configuration second
same_configuration text other more further configuration second a b h =
    let same = same_front a.gives.lines b.gives.lines (configuration_line configuration) (configuration_line second) more further configuration second a.gives.are_lines
    b.gives.are_lines a.gives.gives b.gives.gives
    (configuration_is_line configuration) (configuration_is_line second) (configuration_no_piece configuration) (configuration_no_piece second)
    (sym (spread text configuration more a) ∙ h ∙ spread other second further b) in
    record {
      text_is =
          a.text_is ∙ ap₂ (λ (l m : List ℕ). l ++ ended m) (a.gives.text_is ∙ ap (λ (ls : List (List ℕ)). flat_map ended ls) same.front ∙ sym b.gives.text_is) same.line
          ∙ sym b.text_is;
      rest = same.rest;
      configuration_is = some_same configuration second (sym a.gives.gives ∙ ap pieces_of same.front ∙ b.gives.gives);
    }

-- ---- a configuration is no event

-- a text that says a configuration begins with a line that begins no event
pub record BeginsOtherwise (text : List ℕ) : Type 0 where
  pub line : List ℕ
  pub more : List ℕ
  pub is_line : IsLine line
  pub cut : text ≡ ended line ++ more
  pub none : line_of line ≡ None

pub begins_otherwise : (text configuration : List ℕ) → SaysConfiguration text configuration → BeginsOtherwise text
begins_otherwise text configuration says = by_lines says.gives.lines says.gives.are_lines says.gives.gives
    (says.text_is ∙ ap (λ (l : List ℕ). l ++ ended (configuration_line configuration)) says.gives.text_is)
  where
    by_lines : (lines : List (List ℕ)) → All IsLine lines → pieces_of lines ≡ Some configuration → text ≡ flat_map ended lines ++ ended (configuration_line configuration)
        → BeginsOtherwise text
    by_lines [] are gives is = record {
      line = configuration_line configuration;
      more = [];
      is_line = configuration_is_line configuration;
      cut = is ∙ sym (append-nil (ended (configuration_line configuration)));
      none = configuration_no_event configuration;
    }
    by_lines (line ∷ lines) are gives is = record {
      line = line;
      more = flat_map ended lines ++ ended (configuration_line configuration);
      is_line = first_is_line line lines are;
      cut = is ∙ append_assoc (ended line) (flat_map ended lines) (ended (configuration_line configuration));
      none = let p = parted line lines configuration gives in piece_no_event line p.piece p.first;
    }

says_line : (line : List ℕ) (said : EventLine) → line_of line ≡ Some said → line_of line ≡ None → ⊥
says_line line said says none = absurd cc

pub other_no_event : (text rest more : List ℕ) (event : Event) → BeginsOtherwise rest → SaysEvent text event → rest ≡ text ++ more → ⊥
other_no_event text rest more event o (inl w) e =
    says_line w.line (Whole event) w.says
    (ap line_of (meet w.line o.line more o.more w.is_line.single o.is_line.single (ap (λ (l : List ℕ). l ++ more) (sym w.text_is) ∙ sym e ∙ o.cut)).0 ∙ o.none)
other_no_event text rest more event o (inr d) e =
    says_line d.line (Head d.head) d.says
    (ap line_of (meet d.line o.line (d.rest ++ more) o.more d.is_line.single o.is_line.single
    (sym (append_assoc (ended d.line) d.rest more) ∙ ap (λ (l : List ℕ). l ++ more) (sym d.text_is) ∙ sym e ∙ o.cut)).0 ∙ o.none)

otherwise_more : (text more : List ℕ) → BeginsOtherwise text → BeginsOtherwise (text ++ more)
otherwise_more text more o = record {
  line = o.line;
  more = o.more ++ more;
  is_line = o.is_line;
  cut = ap (λ (l : List ℕ). l ++ more) o.cut ∙ append_assoc (ended o.line) o.more more;
  none = o.none;
}

pub no_event : (text other more further configuration : List ℕ) (event : Event) → SaysConfiguration text configuration → SaysEvent other event
    → text ++ more ≡ other ++ further → ⊥
no_event text other more further configuration event says event_says h =
    other_no_event other (text ++ more) further event (otherwise_more text more (begins_otherwise text configuration says)) event_says h

-- ---- lists

-- no event stands here
abbrev pub NoEvent : List ℕ → Type 0
NoEvent rest = (text more : List ℕ) (event : Event) → rest ≡ text ++ more → SaysEvent text event → ⊥

nothing_no_event : NoEvent []
nothing_no_event text more event e says = says_something text event says (no_front text more e)
  where
    no_front : (text more : List ℕ) → [] ≡ text ++ more → text ≡ []
    no_front [] more e = refl
    no_front (b ∷ text) more e = absurd (omega (arith, ap length e))

segments_no_event : (segments : List Segment) (text : List ℕ) → SaysSegments segments text → NoEvent text
segments_no_event [] text h = subst NoEvent (sym h) nothing_no_event
segments_no_event (segment ∷ segments) text h = λ other more event e says.
    no_event h.first other (h.taken ++ h.rest) more segment.configuration event h.configured says (sym h.cut ∙ e)

pub record SameEvents (events others : List Event) (text other more further : List ℕ) : Type 0 where
  pub events_are : events ≡ others
  pub text_is : text ≡ other
  pub rest : more ≡ further

same_events : (events others : List Event) (text other more further : List ℕ) → SaysRecord events text → SaysRecord others other → NoEvent more → NoEvent further
    → text ++ more ≡ other ++ further
    → SameEvents events others text other more further
same_events [] [] text other more further a b none none_further h =
    record { events_are = refl; text_is = a ∙ sym b; rest = ap (λ (l : List ℕ). l ++ more) (sym a) ∙ h ∙ ap (λ (l : List ℕ). l ++ further) b }
same_events [] (e ∷ others) text other more further a b none none_further h =
    absurd (none b.first (b.rest ++ further) e (ap (λ (l : List ℕ). l ++ more) (sym a) ∙ h ∙ ap (λ (l : List ℕ). l ++ further) b.cut
    ∙ append_assoc b.first b.rest further) (recorded_says b.first e b.says))
same_events (e ∷ events) [] text other more further a b none none_further h =
    absurd (none_further a.first (a.rest ++ more) e (ap (λ (l : List ℕ). l ++ further) (sym b) ∙ sym h ∙ ap (λ (l : List ℕ). l ++ more) a.cut
    ∙ append_assoc a.first a.rest more) (recorded_says a.first e a.says))
same_events (e ∷ events) (d ∷ others) text other more further a b none none_further h =
    let whole : a.first ++ (a.rest ++ more) ≡ b.first ++ (b.rest ++ further) =
    sym (ap (λ (l : List ℕ). l ++ more) a.cut ∙ append_assoc a.first a.rest more) ∙ h ∙ ap (λ (l : List ℕ). l ++ further) b.cut ∙ append_assoc b.first b.rest further in
    let first = same_event a.first b.first (a.rest ++ more) (b.rest ++ further) e d (recorded_says a.first e a.says) (recorded_says b.first d b.says) whole in
    let behind : a.rest ++ more ≡ b.rest ++ further = append_cancel_left b.first (a.rest ++ more) (b.rest ++ further)
    (ap (λ (l : List ℕ). l ++ (a.rest ++ more)) (sym first.0) ∙ whole) in
    let rest = same_events events others a.rest b.rest more further a.others b.others none none_further behind in
    record {
      events_are = ap₂ (λ (x : Event) (xs : List Event). x ∷ xs) first.1 rest.events_are;
      text_is = a.cut ∙ ap₂ (λ (l m : List ℕ). l ++ m) first.0 rest.text_is ∙ sym b.cut;
      rest = rest.rest;
    }

pub one_list_of_events : (events others : List Event) (text : List ℕ) → SaysRecord events text → SaysRecord others text → events ≡ others
one_list_of_events events others text a b = (same_events events others text text [] [] a b nothing_no_event nothing_no_event refl).events_are

segment_is : (segment other : Segment) → segment.configuration ≡ other.configuration → segment.events ≡ other.events → segment ≡ other
segment_is segment other c e = ap₂ (λ (l : List ℕ) (es : List Event). let s : Segment = record { configuration = l; events = es } in s) c e

configuration_some : (text configuration more : List ℕ) → SaysConfiguration text configuration → text ++ more ≡ [] → ⊥
configuration_some text configuration more says e =
    let o = begins_otherwise text configuration says in
    absurd (omega (
      arith,
      ap length (sym (append_assoc (ended o.line) o.more more) ∙ ap (λ (l : List ℕ). l ++ more) (sym o.cut) ∙ e),
      length-append (ended o.line) (o.more ++ more),
      length-append o.line (10 ∷ []),
    ))

same_segments : (segments others : List Segment) (text other : List ℕ) → SaysSegments segments text → SaysSegments others other → text ≡ other → segments ≡ others
same_segments [] [] text other a b h = refl
same_segments [] (s ∷ others) text other a b h = absurd (configuration_some b.first s.configuration (b.taken ++ b.rest) b.configured (sym b.cut ∙ sym h ∙ a))
same_segments (s ∷ segments) [] text other a b h = absurd (configuration_some a.first s.configuration (a.taken ++ a.rest) a.configured (sym a.cut ∙ h ∙ b))
same_segments (s ∷ segments) (r ∷ others) text other a b h =
    let first = same_configuration a.first b.first (a.taken ++ a.rest) (b.taken ++ b.rest) s.configuration r.configuration a.configured b.configured
    (sym a.cut ∙ h ∙ b.cut) in
    let taken = same_events s.events r.events a.taken b.taken a.rest b.rest a.says b.says (segments_no_event segments a.rest a.others)
    (segments_no_event others b.rest b.others) first.rest in
    ap₂ (λ (x : Segment) (xs : List Segment). x ∷ xs) (segment_is s r first.configuration_is taken.events_are)
    (same_segments segments others a.rest b.rest a.others b.others taken.rest)

pub one_list_of_segments : (segments others : List Segment) (text : List ℕ) → SaysSegments segments text → SaysSegments others text → segments ≡ others
one_list_of_segments segments others text a b = same_segments segments others text text a b refl

pub one_whole : (events taken : List Event) (segments others : List Segment) (text : List ℕ) → SaysWhole events segments text → SaysWhole taken others text
    → (events ≡ taken) × (segments ≡ others)
one_whole events taken segments others text a b =
    let front = same_events events taken a.taken b.taken a.rest b.rest a.says b.says (segments_no_event segments a.rest a.others)
    (segments_no_event others b.rest b.others) (sym a.cut ∙ b.cut) in
    (front.events_are, same_segments segments others a.rest b.rest a.others b.others front.rest)

-- ---- segments join

pub segments_all : (segments more : List Segment) (text further : List ℕ) → SaysSegments segments text → SaysSegments more further
    → SaysSegments (segments ++ more) (text ++ further)
segments_all [] more text further h says = subst (λ l. SaysSegments more (l ++ further)) (sym h) says
segments_all (s ∷ segments) more text further h says = record {
  first = h.first;
  taken = h.taken;
  rest = h.rest ++ further;
  cut = ap (λ l. l ++ further) h.cut ∙ append_assoc h.first (h.taken ++ h.rest) further ∙ ap (λ l. h.first ++ l) (append_assoc h.taken h.rest further);
  configured = h.configured;
  says = h.says;
  others = segments_all segments more h.rest further h.others says;
}

pub segment_one : (segment : Segment) (text taken : List ℕ) → SaysConfiguration text segment.configuration → SaysRecord segment.events taken
    → SaysSegments (segment ∷ []) (text ++ taken)
segment_one segment text taken configured says = record {
  first = text;
  taken = taken;
  rest = [];
  cut = ap (λ (l : List ℕ). text ++ l) (sym (append-nil taken));
  configured = configured;
  says = says;
  others = refl;
}

-- what is taken behind segments goes to the last of them
pub segments_further : (segments : List Segment) (segment : Segment) (more : List Event) (text further : List ℕ) → SaysSegments (segments ++ segment ∷ []) text
    → SaysRecord more further
    → SaysSegments (segments ++ record { configuration = segment.configuration; events = segment.events ++ more } ∷ []) (text ++ further)
segments_further [] segment more text further h says = record {
  first = h.first;
  taken = h.taken ++ further;
  rest = [];
  cut =
      ap (λ l. l ++ further) (h.cut ∙ ap (λ (l : List ℕ). h.first ++ (h.taken ++ l)) h.others ∙ ap (λ (l : List ℕ). h.first ++ l) (append-nil h.taken))
      ∙ append_assoc h.first h.taken further
      ∙ ap (λ (l : List ℕ). h.first ++ l) (sym (append-nil (h.taken ++ further)));
  configured = h.configured;
  says = record_all segment.events more h.taken further h.says says;
  others = refl;
}
segments_further (s ∷ segments) segment more text further h says = record {
  first = h.first;
  taken = h.taken;
  rest = h.rest ++ further;
  cut = ap (λ l. l ++ further) h.cut ∙ append_assoc h.first (h.taken ++ h.rest) further ∙ ap (λ l. h.first ++ l) (append_assoc h.taken h.rest further);
  configured = h.configured;
  says = h.says;
  others = segments_further segments segment more h.rest further h.others says;
}

-- ---- any text is given by some lines

pub record SomeLines (given : List ℕ) : Type 0 where
  pub text : List ℕ
  pub gives : GivesText text given

one_byte : (b : ℕ) → SomeLines (b ∷ [])
one_byte b = by_test (is_end b) refl
  where
    ends_of : (t : Bool) → is_end b ≡ t → count_by is_end (b ∷ []) ≡ cond t 1 0 + 0
    ends_of t is = sum_by-cons (λ c. cond (is_end c) 1 0) b [] ∙ ap (λ (t : Bool). cond t 1 0 + 0) is

    by_test : (t : Bool) → is_end b ≡ t → SomeLines (b ∷ [])
    by_test true is = record {
      text = ended (61 ∷ 32 ∷ []);
      gives = gives_one (61 ∷ 32 ∷ []) (b ∷ []) (record { short = omega arith; single = refl }) (ap (λ (n : ℕ). Some (n ∷ [])) (sym (eqb-true b 10 is)));
    }
    by_test false is = record {
      text = ended (43 ∷ 32 ∷ b ∷ []);
      gives =
          gives_one (43 ∷ 32 ∷ b ∷ []) (b ∷ []) (record {
            short = omega arith;
            single =
                let sum : count_by is_end (43 ∷ 32 ∷ b ∷ []) ≡ count_by is_end (43 ∷ 32 ∷ []) + count_by is_end (b ∷ []) = ends_add (43 ∷ 32 ∷ []) (b ∷ []) in
                let none : count_by is_end (b ∷ []) ≡ 0 + 0 = ends_of false is in omega (arith, sum, none);
          })
          refl;
    }

pub some_lines : (given : List ℕ) → SomeLines given
some_lines [] = record { text = []; gives = gives_nothing }
some_lines (b ∷ given) =
    let first = one_byte b in
    let rest = some_lines given in
    record { text = first.text ++ rest.text; gives = gives_both first.text rest.text (b ∷ []) given first.gives rest.gives }

pub some_configuration : (configuration : List ℕ) → (text : List ℕ) × SaysConfiguration text configuration
some_configuration configuration =
    let front = some_lines configuration in
    (front.text ++ ended (configuration_line configuration), record { front = front.text; gives = front.gives; text_is = refl })
