-- Where a configuration stands, and where none does.
use Rattle.std.proofs.Common.{◌≡◌, ◌≢◌, ℕ, ◌+◌, ◌≤◌, ◌<◌, List, [], ◌∷◌, ◌++◌, length, take, drop, Bool, true, false, Option, Some, None, inl, inr, refl, sym, ◌∙◌, ap}
use Rattle.std.proofs.Common.{ap₂, subst, arith, append-nil, append_assoc, length-append}
use Rattle.std.specs.Prelude.{◌⊎◌, ◌||◌, nat_eq, count_by, codes, All, IfSome, if◌then◌else◌}
use Rattle.std.specs.List.{flat_map, starts_with}
use Rattle.std.specs.Str.{bytes_eq}
use Rattle.std.specs.Io.KnownBytes.{Consumes}
use Rattle.std.proofs.KnownBytes.{Consumes-nil, Consumes-trans}
use Rattle.std.proofs.lemmas.Bool.Decides.{Decides-eqb}
use Rattle.std.proofs.lemmas.Slice.Eq.{bytes_eq-Decides, starts_is}
use Rattle.sip_replay_script.specs.declared.read_stop.ReadStop.{ReadStop}
use Rattle.sip_replay_script.specs.declared.read_stop.ReadStop.TheVariants as stops
use Rattle.sip_journal.specs.declared.configuration_stop.ConfigurationStop.{ConfigurationStop}
use Rattle.sip_journal.specs.declared.configuration_stop.ConfigurationStop.TheVariants.{NoMemory, Damaged, Cut, Read, TooLong}
use Rattle.sip_replay_script.specs.Lines.{Reading, GivesLine, HasNoLine, IsLine, IsLong, IsOver, IsUnfinished, LineStops, is_end, left, pending}
use Rattle.sip_replay_script.specs.Events.{ended}
use Rattle.sip_journal.specs.Segments.{configuration_line, piece_of, pieces_of, GivesText, SaysConfiguration}
use Rattle.sip_journal.specs.Configurations.{begins_piece, begins_rest, rest_stop, ConfigurationStops, GivesConfiguration, IsCutConfiguration, IsCutRest}
use Rattle.sip_journal.specs.Configurations.{IsDamagedConfiguration, IsLongConfiguration, IsLongPiece, IsLongRest, IsNoRest, PieceStops, RestStops, SaysRest}
use Rattle.sip_journal.specs.Configurations.{TakesPiece}
use Rattle.sip_replay_script.proofs.CutEvents.{head_is, not_nil, tail_is}
use Rattle.sip_replay_script.proofs.Damaged.{front_of_line, no_line_yet}
use Rattle.sip_replay_script.proofs.Datagrams.{behind_any, nothing_left}
use Rattle.sip_replay_script.proofs.LineEnds.{ends_add, one_end}
use Rattle.sip_replay_script.proofs.OneReading.{line_stands, same_line}
use Rattle.sip_journal.proofs.Segments.{configuration_is_line, configuration_no_piece, first_is_line, gives_both, gives_no_piece, gives_nothing, gives_one}
use Rattle.sip_journal.proofs.Segments.{others_are_lines, parted, piece_is, IsPiece}
use Rattle.sip_journal.proofs.FirstBytes.{true_false}

-- ---- the first line of what gives the rest of a configuration

pub record FirstOfRest (front text : List ℕ) : Type 0 where
  pub line : List ℕ
  pub more : List ℕ
  pub is_line : IsLine line
  pub cut : text ≡ ended line ++ more
  pub kind : ((piece : List ℕ) × (piece_of line ≡ Some piece)) ⊎ (line ≡ configuration_line front)

some_same : {A : Type 0} (x y : A) → Some x ≡ Some y → x ≡ y
some_same x y e = cc

first_of_rest : (front text configuration : List ℕ) → SaysRest front text configuration → FirstOfRest front text
first_of_rest front text configuration says = by_lines says.gives.lines says.gives.are_lines says.gives.gives
    (says.text_is ∙ ap (λ (l : List ℕ). l ++ ended (configuration_line configuration)) says.gives.text_is)
  where
    by_lines : (lines : List (List ℕ)) → All IsLine lines → pieces_of lines ≡ Some says.given → text ≡ flat_map ended lines ++ ended (configuration_line configuration)
        → FirstOfRest front text
    by_lines [] are gives is = record {
      line = configuration_line configuration;
      more = [];
      is_line = configuration_is_line configuration;
      cut = is ∙ sym (append-nil (ended (configuration_line configuration)));
      kind = inr (ap configuration_line (says.whole ∙ ap (λ (l : List ℕ). front ++ l) (sym (some_same [] says.given gives)) ∙ append-nil front));
    }
    by_lines (line ∷ lines) are gives is = record {
      line = line;
      more = flat_map ended lines ++ ended (configuration_line configuration);
      is_line = first_is_line line lines are;
      cut = is ∙ append_assoc (ended line) (flat_map ended lines) (ended (configuration_line configuration));
      kind = let p = parted line lines says.given gives in inl (p.piece, p.first);
    }

or_none : (a b : Bool) → (a || b) ≡ false → (a ≡ false) × (b ≡ false)
or_none true b e = absurd (cc)
or_none false b e = (refl, e)

none_piece : (line piece : List ℕ) → piece_of line ≡ Some piece → piece_of line ≡ None → ⊥
none_piece line piece some none = absurd cc

-- another line
other_first : (front text configuration line more further : List ℕ) → SaysRest front text configuration → IsLine line → piece_of line ≡ None
    → bytes_eq line (configuration_line front) ≡ false → text ++ more ≡ ended line ++ further → ⊥
other_first front text configuration line more further says is_line none other e =
    let f = first_of_rest front text configuration says in
    let same : f.line ≡ line = (same_line f.line line (f.more ++ more) further f.is_line.single is_line.single
    (sym (append_assoc (ended f.line) f.more more) ∙ ap (λ (l : List ℕ). l ++ more) (sym f.cut) ∙ e)).0 in
    elim f.kind [
      | inl p ↦ none_piece line p.0 (ap piece_of (sym same) ∙ p.1) none
      | inr c ↦ true_false (bytes_eq line (configuration_line front)) ((bytes_eq-Decides line (configuration_line front)).1 (sym same ∙ c)) other
    ]

pub other_rest : (front rest line further : List ℕ) → IsLine line → piece_of line ≡ None → bytes_eq line (configuration_line front) ≡ false → rest ≡ ended line ++ further
    → IsNoRest front rest
other_rest front rest line further is_line none other cut = record {
  none = λ text more configuration e says. other_first front text configuration line more further says is_line none other (sym e ∙ cut);
  no_front = λ c. other_first front (rest ++ c.more) c.configuration line [] (further ++ c.more) c.says is_line none other
      (append-nil (rest ++ c.more) ∙ ap (λ (l : List ℕ). l ++ c.more) cut ∙ append_assoc (ended line) further c.more);
}

-- a line too long
long_first : (front text configuration rest more : List ℕ) → SaysRest front text configuration → HasNoLine rest → rest ≡ text ++ more → ⊥
long_first front text configuration rest more says none e =
    let f = first_of_rest front text configuration says in
    line_stands f.line (f.more ++ more) f.is_line (subst HasNoLine (e ∙ ap (λ (l : List ℕ). l ++ more) f.cut ∙ append_assoc (ended f.line) f.more more) none)

pub long_rest : (front rest : List ℕ) → IsLong rest → IsNoRest front rest
long_rest front rest l = record {
  none = λ text more configuration e says. long_first front text configuration rest more says l.unended e;
  no_front = λ c. long_first front (rest ++ c.more) c.configuration (rest ++ c.more) [] c.says (no_line_yet rest c.more l) (sym (append-nil (rest ++ c.more)));
}

-- nothing more
pub over_rest : (front rest : List ℕ) → rest ≡ [] → IsCutRest front rest
over_rest front rest none = record {
  more = ended (configuration_line front);
  configuration = front;
  cut = not_nil 99 _;
  says = record {
    lines = [];
    given = [];
    gives = gives_nothing;
    whole = sym (append-nil front);
    text_is = ap (λ (l : List ℕ). l ++ ended (configuration_line front)) none;
  };
}

-- a line that gives too much
pub long_piece : (longest : ℕ) (front rest line further : List ℕ) → IsLine line → rest ≡ ended line ++ further → IsLongPiece longest line front
    → IsLongRest longest front rest
long_piece longest front rest line further is_line cut p = record {
  text = ended line;
  further = further;
  given = p.piece;
  cut = cut;
  gives = gives_one line p.piece is_line p.gives;
  long = p.long;
}

-- ---- a line that was cut

-- it goes on as one that gives a piece
record GoesOnAsPiece (seen : List ℕ) : Type 0 where
  tail : List ℕ
  piece : List ℕ
  is_line : IsLine (seen ++ tail)
  gives : piece_of (seen ++ tail) ≡ Some piece

mark_alone : (a mark : ℕ) → starts_with nat_eq (mark ∷ 32 ∷ []) (take 2 (a ∷ [])) ≡ true → a ≡ mark
mark_alone a mark e = sym (head_is mark a (32 ∷ []) (32 ∷ []) ((starts_is Decides-eqb (mark ∷ 32 ∷ []) (a ∷ []) true (sym e)).0 refl))

mark_and_blank : (a b mark : ℕ) (seen : List ℕ) → starts_with nat_eq (mark ∷ 32 ∷ []) (take 2 (a ∷ b ∷ seen)) ≡ true → (a ≡ mark) × (b ≡ 32)
mark_and_blank a b mark seen e =
    let both : mark ∷ 32 ∷ [] ≡ a ∷ b ∷ [] = (starts_is Decides-eqb (mark ∷ 32 ∷ []) (a ∷ b ∷ []) true (sym e)).0 refl in
    (sym (head_is mark a (32 ∷ []) (b ∷ []) both), sym (head_is 32 b [] [] (tail_is mark a (32 ∷ []) (b ∷ []) both)))

goes_on : (seen : List ℕ) (mark : ℕ) → seen ≢ [] → IsLine seen → starts_with nat_eq (mark ∷ 32 ∷ []) (take 2 seen) ≡ true → IsLine (mark ∷ 32 ∷ [])
    → ((bytes : List ℕ) → (piece : List ℕ) × (piece_of (mark ∷ 32 ∷ bytes) ≡ Some piece)) → GoesOnAsPiece seen
goes_on [] mark begun is_line e whole gives = absurd (begun refl)
goes_on (a ∷ []) mark begun is_line e whole gives =
    let is : a ∷ 32 ∷ [] ≡ mark ∷ 32 ∷ [] = ap (λ (n : ℕ). n ∷ 32 ∷ []) (mark_alone a mark e) in
    let p = gives [] in
    record { tail = 32 ∷ []; piece = p.0; is_line = subst IsLine (sym is) whole; gives = ap piece_of is ∙ p.1 }
goes_on (a ∷ b ∷ seen) mark begun is_line e whole gives =
    let both = mark_and_blank a b mark seen e in
    let is : a ∷ b ∷ seen ≡ mark ∷ 32 ∷ seen = ap₂ (λ (n m : ℕ). n ∷ m ∷ seen) both.0 both.1 in
    let p = gives seen in
    record { tail = []; piece = p.0; is_line = subst IsLine (sym (append-nil (a ∷ b ∷ seen))) is_line; gives = ap piece_of (append-nil (a ∷ b ∷ seen) ∙ is) ∙ p.1 }

goes_on_as_piece : (seen : List ℕ) → seen ≢ [] → IsLine seen → begins_piece seen ≡ true → GoesOnAsPiece seen
goes_on_as_piece seen begun is_line e = by_tests (starts_with nat_eq (codes "= ") (take 2 seen)) (starts_with nat_eq (codes "+ ") (take 2 seen)) refl refl e
  where
    by_tests : (s t : Bool) → starts_with nat_eq (codes "= ") (take 2 seen) ≡ s → starts_with nat_eq (codes "+ ") (take 2 seen) ≡ t → (s || t) ≡ true → GoesOnAsPiece seen
    by_tests true t is_s is_t h = goes_on seen 61 begun is_line is_s (record { short = omega arith; single = refl }) (λ bytes. (ended bytes, refl))
    by_tests false true is_s is_t h = goes_on seen 43 begun is_line is_t (record { short = omega arith; single = refl }) (λ bytes. (bytes, refl))
    by_tests false false is_s is_t h = absurd cc

cut_piece : (front rest seen : List ℕ) → rest ≡ seen → GoesOnAsPiece seen → IsCutRest front rest
cut_piece front rest seen all g = record {
  more = g.tail ++ 10 ∷ ended (configuration_line (front ++ g.piece));
  configuration = front ++ g.piece;
  cut = λ e. absurd (omega (arith, ap length e, length-append g.tail (10 ∷ ended (configuration_line (front ++ g.piece)))));
  says = record {
    lines = ended (seen ++ g.tail);
    given = g.piece;
    gives = gives_one (seen ++ g.tail) g.piece g.is_line g.gives;
    whole = refl;
    text_is =
        ap (λ (l : List ℕ). l ++ (g.tail ++ 10 ∷ ended (configuration_line (front ++ g.piece)))) all
        ∙ sym (append_assoc seen g.tail (10 ∷ ended (configuration_line (front ++ g.piece))))
        ∙ sym (append_assoc (seen ++ g.tail) (10 ∷ []) (ended (configuration_line (front ++ g.piece))));
  };
}

cut_configuration : (front rest seen : List ℕ) → rest ≡ seen → starts_with nat_eq (configuration_line front) seen ≡ true → IsCutRest front rest
cut_configuration front rest seen all e =
    let tail : List ℕ = drop (length seen) (configuration_line front) in
    let whole : configuration_line front ≡ seen ++ tail = (starts_is Decides-eqb (configuration_line front) seen true (sym e)).0 refl in
    record {
      more = ended tail;
      configuration = front;
      cut = λ h. absurd (omega (arith, ap length h, length-append tail (10 ∷ [])));
      says = record {
        lines = [];
        given = [];
        gives = gives_nothing;
        whole = sym (append-nil front);
        text_is = ap (λ (l : List ℕ). l ++ ended tail) all ∙ sym (append_assoc seen tail (10 ∷ [])) ∙ ap ended (sym whole);
      };
    }

cut_rest : (front rest seen : List ℕ) → IsUnfinished seen rest → begins_rest front seen ≡ true → IsCutRest front rest
cut_rest front rest seen u e = by_tests (begins_piece seen) (starts_with nat_eq (configuration_line front) seen) refl refl e
  where
    by_tests : (s t : Bool) → begins_piece seen ≡ s → starts_with nat_eq (configuration_line front) seen ≡ t → (s || t) ≡ true → IsCutRest front rest
    by_tests true t is_s is_t h = cut_piece front rest seen u.all (goes_on_as_piece seen u.begun u.is_line is_s)
    by_tests false true is_s is_t h = cut_configuration front rest seen u.all is_t
    by_tests false false is_s is_t h = absurd cc

-- or it doesn't
begins_so : (seen more bytes : List ℕ) (mark : ℕ) → seen ≢ [] → begins_piece (mark ∷ []) ≡ true → ((rest : List ℕ) → begins_piece (mark ∷ 32 ∷ rest) ≡ true)
    → seen ++ more ≡ mark ∷ 32 ∷ bytes → begins_piece seen ≡ true
begins_so [] more bytes mark begun alone all e = absurd (begun refl)
begins_so (a ∷ []) more bytes mark begun alone all e = ap (λ (n : ℕ). begins_piece (n ∷ [])) (head_is a mark more (32 ∷ bytes) e) ∙ alone
begins_so (a ∷ b ∷ seen) more bytes mark begun alone all e =
    let first : a ≡ mark = head_is a mark (b ∷ (seen ++ more)) (32 ∷ bytes) e in
    let second : b ≡ 32 = head_is b 32 (seen ++ more) bytes (tail_is a mark (b ∷ (seen ++ more)) (32 ∷ bytes) e) in
    ap₂ (λ (n m : ℕ). begins_piece (n ∷ m ∷ seen)) first second ∙ all seen

piece_begins : (seen more piece : List ℕ) → seen ≢ [] → piece_of (seen ++ more) ≡ Some piece → begins_piece seen ≡ true
piece_begins seen more piece begun e = by_kind (piece_is (seen ++ more) piece e)
  where
    by_kind : IsPiece (seen ++ more) piece → begins_piece seen ≡ true
    by_kind p = elim p.is [
      | inl a ↦ begins_so seen more p.bytes 61 begun refl (λ rest. refl) a.0
      | inr b ↦ begins_so seen more p.bytes 43 begun refl (λ rest. refl) b.0
    ]

no_end_inside : (rest seen text more line further : List ℕ) → IsUnfinished seen rest → IsLine line → text ≡ ended line ++ further → rest ≡ text ++ more → ⊥
no_end_inside rest seen text more line further u is_line cut e =
    let all : seen ≡ ended line ++ (further ++ more) = sym u.all ∙ e ∙ ap (λ (l : List ℕ). l ++ more) cut ∙ append_assoc (ended line) further more in
    let one : count_by is_end (ended line) ≡ 1 = one_end line is_line in
    let sum : count_by is_end (ended line ++ (further ++ more)) ≡ count_by is_end (ended line) + count_by is_end (further ++ more) =
    ends_add (ended line) (further ++ more) in
    let none : count_by is_end (ended line ++ (further ++ more)) ≡ 0 = ap (count_by is_end) (sym all) ∙ u.is_line.single in
    absurd (omega (arith, one, sum, none))

unfinished_rest : (front rest seen : List ℕ) → IsUnfinished seen rest → begins_rest front seen ≡ false → IsNoRest front rest
unfinished_rest front rest seen u e = record {
  none = λ text more configuration h says. let f = first_of_rest front text configuration says in no_end_inside rest seen text more f.line f.more u f.is_line f.cut h;
  no_front = by_front;
} where
  both : (begins_piece seen ≡ false) × (starts_with nat_eq (configuration_line front) seen ≡ false)
  both = or_none (begins_piece seen) (starts_with nat_eq (configuration_line front) seen) e

  by_front : IsCutRest front rest → ⊥
  by_front c =
      let f = first_of_rest front (rest ++ c.more) c.configuration c.says in
      let l = front_of_line f.line f.more seen c.more u.is_line.single (sym (append_assoc f.line (10 ∷ []) f.more) ∙ sym f.cut ∙ ap (λ (s : List ℕ). s ++ c.more) u.all)
      in
      elim f.kind [
        | inl p ↦ true_false (begins_piece seen) (piece_begins seen l.more p.0 u.begun (ap piece_of (sym l.is) ∙ p.1)) both.0
        | inr k ↦ true_false (starts_with nat_eq (configuration_line front) seen)
            ((starts_is Decides-eqb (configuration_line front) seen (starts_with nat_eq (configuration_line front) seen) refl).1 l.more (sym k ∙ l.is)) both.1
      ]

-- ---- why no line is taken

cut_stops : (longest : ℕ) (F : Type 0) (front rest seen : List ℕ) (t : Bool) → begins_rest front seen ≡ t → IsUnfinished seen rest
    → RestStops longest F (Some rest) front (if t then Cut else Damaged)
cut_stops longest F front rest seen true is u = cut_rest front rest seen u is
cut_stops longest F front rest seen false is u = unfinished_rest front rest seen u is

unknown_stops : (longest : ℕ) (F : Type 0) (front : List ℕ) (t : Bool) → RestStops longest F None front (if t then Cut else Damaged)
unknown_stops longest F front true = tt
unknown_stops longest F front false = tt

pub line_stops : (longest : ℕ) (F : Type 0) (script : Option (List ℕ)) (front seen : List ℕ) (stop : ReadStop) → LineStops F script seen stop
    → RestStops longest F script front (rest_stop front seen stop)
line_stops longest F script front seen stops.NoMemory h = tt
line_stops longest F None front seen stops.Damaged h = tt
line_stops longest F (Some rest) front seen stops.Damaged h = long_rest front rest h
line_stops longest F None front seen stops.Cut h = unknown_stops longest F front (begins_rest front seen)
line_stops longest F (Some rest) front seen stops.Cut h = cut_stops longest F front rest seen (begins_rest front seen) refl h
line_stops longest F script front seen stops.Read h = h

over_known : (front : List ℕ) (script : Option (List ℕ)) → IfSome script (λ rest. rest ≡ []) → IfSome script (IsCutRest front)
over_known front None h = tt
over_known front (Some rest) h = over_rest front rest h

pub over_stops : (front : List ℕ) (old new : Reading) (before after : Option (List ℕ)) → IsOver old new before after → IfSome (pending old before) (IsCutRest front)
over_stops front old new before after over = over_known front (pending old before) (nothing_left (pending old before) (pending new after) over.kept over.at_end)

pub piece_stops : (longest : ℕ) (F : Type 0) (old new : Reading) (before after : Option (List ℕ)) (line front : List ℕ) (stop : ConfigurationStop)
    → GivesLine old new before after line → PieceStops longest line front stop
    → RestStops longest F (pending old before) front stop
piece_stops longest F old new before after line front NoMemory given h = tt
piece_stops longest F old new before after line front Damaged given h = absurd h
piece_stops longest F old new before after line front Cut given h = absurd h
piece_stops longest F old new before after line front Read given h = absurd h
piece_stops longest F old new before after line front TooLong given h =
    behind_any (pending old before) (pending new after) (ended line) {Q = IsLongRest longest front} given.consumes
    (λ xs ys cut. long_piece longest front xs line ys given.is_line cut h)

pub other_stops : (front : List ℕ) (old new : Reading) (before after : Option (List ℕ)) (line : List ℕ) → GivesLine old new before after line → piece_of line ≡ None
    → bytes_eq line (configuration_line front) ≡ false
    → IfSome (pending old before) (IsNoRest front)
other_stops front old new before after line given none other =
    behind_any (pending old before) (pending new after) (ended line) {Q = IsNoRest front} given.consumes
    (λ xs ys cut. other_rest front xs line ys given.is_line none other cut)

-- ---- the whole, behind lines that gave a front

-- what is left of lines behind others
record Leftover (given whole rest further last : List ℕ) : Type 0 where
  lines : List ℕ
  more : List ℕ
  gives : GivesText lines more
  is : whole ≡ given ++ more
  cut : rest ≡ lines ++ (ended last ++ further)

leftover : (lines others : List (List ℕ)) (given whole rest further last : List ℕ) → All IsLine lines → All IsLine others → pieces_of lines ≡ Some given
    → pieces_of others ≡ Some whole → IsLine last → piece_of last ≡ None
    → flat_map ended lines ++ rest ≡ flat_map ended others ++ (ended last ++ further) → Leftover given whole rest further last
leftover [] others given whole rest further last are are_others h k is_last none e = record {
  lines = flat_map ended others;
  more = whole;
  gives = record { lines = others; are_lines = are_others; text_is = refl; gives = k };
  is = ap (λ (l : List ℕ). l ++ whole) (some_same [] given h);
  cut = e;
}
leftover (l ∷ lines) [] given whole rest further last are are_others h k is_last none e =
    let p = parted l lines given h in
    absurd (gives_no_piece l p.piece last p.first none
    (same_line l last (flat_map ended lines ++ rest) further (first_is_line l lines are).single is_last.single
    (sym (append_assoc (ended l) (flat_map ended lines) rest) ∙ e)).0)
leftover (l ∷ lines) (m ∷ others) given whole rest further last are are_others h k is_last none e =
    let p = parted l lines given h in
    let q = parted m others whole k in
    let first = same_line l m (flat_map ended lines ++ rest) (flat_map ended others ++ (ended last ++ further)) (first_is_line l lines are).single
    (first_is_line m others are_others).single
    (sym (append_assoc (ended l) (flat_map ended lines) rest) ∙ e ∙ append_assoc (ended m) (flat_map ended others) (ended last ++ further)) in
    let same : p.piece ≡ q.piece = some_same p.piece q.piece (sym p.first ∙ ap piece_of first.0 ∙ q.first) in
    let r = leftover lines others p.others q.others rest further last (others_are_lines l lines are) (others_are_lines m others are_others) p.behind q.behind is_last none
    first.1 in
    record {
      lines = r.lines;
      more = r.more;
      gives = r.gives;
      is = q.is ∙ ap₂ (λ (x y : List ℕ). x ++ y) (sym same) r.is ∙ sym (append_assoc p.piece p.others r.more) ∙ ap (λ (x : List ℕ). x ++ r.more) (sym p.is);
      cut = r.cut;
    }

record RestOf (front rest text further configuration : List ℕ) : Type 0 where
  tail : List ℕ
  says : SaysRest front tail configuration
  cut : rest ≡ tail ++ further

rest_of : (lines front rest text further configuration : List ℕ) → GivesText lines front → SaysConfiguration text configuration → lines ++ rest ≡ text ++ further
    → RestOf front rest text further configuration
rest_of lines front rest text further configuration gives says e =
    let r = leftover gives.lines says.gives.lines front configuration rest further (configuration_line configuration) gives.are_lines says.gives.are_lines gives.gives
    says.gives.gives (configuration_is_line configuration) (configuration_no_piece configuration)
    (ap (λ (l : List ℕ). l ++ rest) (sym gives.text_is) ∙ e ∙ ap (λ (l : List ℕ). l ++ further)
    (says.text_is ∙ ap (λ (l : List ℕ). l ++ ended (configuration_line configuration)) says.gives.text_is)
    ∙ append_assoc (flat_map ended says.gives.lines) (ended (configuration_line configuration)) further) in
    record {
      tail = r.lines ++ ended (configuration_line configuration);
      says = record { lines = r.lines; given = r.more; gives = r.gives; whole = r.is; text_is = refl };
      cut = r.cut ∙ sym (append_assoc r.lines (ended (configuration_line configuration)) further);
    }

no_configuration : (whole lines front rest : List ℕ) → whole ≢ [] → GivesText lines front → whole ≡ lines ++ rest → IsNoRest front rest → IsDamagedConfiguration whole
no_configuration whole lines front rest some gives cut n = record {
  some = some;
  none = λ text further configuration e says. let r = rest_of lines front rest text further configuration gives says (sym cut ∙ e) in
      n.none r.tail further configuration r.cut r.says;
  no_front = by_front;
} where
  by_front : IsCutConfiguration whole → ⊥
  by_front c =
      let r = rest_of lines front (rest ++ c.more) (whole ++ c.more) [] c.configuration gives c.says
      (sym (append_assoc lines rest c.more) ∙ ap (λ (l : List ℕ). l ++ c.more) (sym cut) ∙ sym (append-nil (whole ++ c.more))) in
      n.no_front (record {
        more = c.more;
        configuration = c.configuration;
        cut = c.cut;
        says = subst (λ (l : List ℕ). SaysRest front l c.configuration) (sym (r.cut ∙ append-nil r.tail)) r.says;
      })

pub joined : (lines front text configuration : List ℕ) → GivesText lines front → SaysRest front text configuration → SaysConfiguration (lines ++ text) configuration
joined lines front text configuration gives says = record {
  front = lines ++ says.lines;
  gives = subst (λ (l : List ℕ). GivesText (lines ++ says.lines) l) (sym says.whole) (gives_both lines says.lines front says.given gives says.gives);
  text_is = ap (λ (l : List ℕ). lines ++ l) says.text_is ∙ sym (append_assoc lines says.lines (ended (configuration_line configuration)));
}

cut_of : (whole lines front rest : List ℕ) → whole ≢ [] → GivesText lines front → whole ≡ lines ++ rest → IsCutRest front rest → IsCutConfiguration whole
cut_of whole lines front rest some gives cut c = record {
  more = c.more;
  configuration = c.configuration;
  begun = some;
  cut = c.cut;
  says = subst (λ (l : List ℕ). SaysConfiguration l c.configuration) (sym (append_assoc lines rest c.more) ∙ ap (λ (l : List ℕ). l ++ c.more) (sym cut))
      (joined lines front (rest ++ c.more) c.configuration gives c.says);
}

long_of : (longest : ℕ) (whole lines front rest : List ℕ) → GivesText lines front → whole ≡ lines ++ rest → IsLongRest longest front rest
    → IsLongConfiguration longest whole
long_of longest whole lines front rest gives cut l = record {
  text = lines ++ l.text;
  further = l.further;
  given = front ++ l.given;
  cut = cut ∙ ap (λ (r : List ℕ). lines ++ r) l.cut ∙ sym (append_assoc lines l.text l.further);
  gives = gives_both lines l.text front l.given gives l.gives;
  long = l.long;
}

-- ---- lines that were taken

pub record Taken (old new : Reading) (before after : Option (List ℕ)) (front : List ℕ) : Type 0 where
  pub lines : List ℕ
  pub gives : GivesText lines front
  pub consumes : Consumes (pending old before) (pending new after) lines
  pub number : new.number ≡ old.number + count_by is_end lines
  pub fewer : left new ≤ left old

pub taken_none : (r : Reading) (before : Option (List ℕ)) → Taken r r before before []
taken_none r before = record { lines = []; gives = gives_nothing; consumes = Consumes-nil (pending r before); number = omega arith; fewer = omega arith }

pub taken_more : (old mid new : Reading) (before middle after : Option (List ℕ)) (front grown : List ℕ) → Taken old mid before middle front
    → TakesPiece mid new middle after front grown → Taken old new before after grown
taken_more old mid new before middle after front grown t p = record {
  lines = t.lines ++ ended p.line;
  gives = subst (λ (l : List ℕ). GivesText (t.lines ++ ended p.line) l) (sym p.adds.added)
      (gives_both t.lines (ended p.line) front p.adds.piece t.gives (gives_one p.line p.adds.piece p.given.is_line p.adds.gives));
  consumes = Consumes-trans (pending old before) (pending mid middle) (pending new after) t.lines (ended p.line) t.consumes p.given.consumes;
  number =
      let one : count_by is_end (ended p.line) ≡ 1 = one_end p.line p.given.is_line in
      let sum : count_by is_end (t.lines ++ ended p.line) ≡ count_by is_end t.lines + count_by is_end (ended p.line) = ends_add t.lines (ended p.line) in
      let first : mid.number ≡ old.number + count_by is_end t.lines = t.number in
      let next : new.number ≡ mid.number + 1 = p.given.number in
      omega (arith, one, sum, first, next);
  fewer = let first : left mid ≤ left old = t.fewer in let next : left new < left mid = p.given.fewer in omega (arith, first, next);
}

pub takes_less : (old new : Reading) (before after : Option (List ℕ)) (front grown : List ℕ) → TakesPiece old new before after front grown → left new < left old
takes_less old new before after front grown p = p.given.fewer

pub taken_whole : (old mid new : Reading) (before middle after : Option (List ℕ)) (front configuration : List ℕ) → Taken old mid before middle front
    → GivesLine mid new middle after (configuration_line front) → configuration ≡ front
    → GivesConfiguration old new before after configuration
taken_whole old mid new before middle after front configuration t given is = record {
  text = t.lines ++ ended (configuration_line front);
  says = subst (λ (l : List ℕ). SaysConfiguration (t.lines ++ ended (configuration_line front)) l) (sym is) (record { front = t.lines; gives = t.gives; text_is = refl });
  consumes = Consumes-trans (pending old before) (pending mid middle) (pending new after) t.lines (ended (configuration_line front)) t.consumes given.consumes;
  number =
      let one : count_by is_end (ended (configuration_line front)) ≡ 1 = one_end (configuration_line front) given.is_line in
      let sum : count_by is_end (t.lines ++ ended (configuration_line front)) ≡ count_by is_end t.lines + count_by is_end (ended (configuration_line front)) =
      ends_add t.lines (ended (configuration_line front)) in
      let first : mid.number ≡ old.number + count_by is_end t.lines = t.number in
      let next : new.number ≡ mid.number + 1 = given.number in
      omega (arith, one, sum, first, next);
  fewer = let first : left mid ≤ left old = t.fewer in let next : left new < left mid = given.fewer in omega (arith, first, next);
}

-- something is still to come
pub some_pending : (r : Reading) (before : Option (List ℕ)) → r.unread ≢ [] → IfSome (pending r before) (λ rest. rest ≢ [])
some_pending r None some = tt
some_pending r (Some more) some = λ e. some (no_front r.unread more e)
  where
    no_front : (xs ys : List ℕ) → xs ++ ys ≡ [] → xs ≡ []
    no_front [] ys e = refl
    no_front (x ∷ xs) ys e = absurd (omega (arith, ap length e))

-- what is left behind a text that was read, where something was
behind_some : (a b : Option (List ℕ)) (text : List ℕ) {P Q : List ℕ → Type 0} → Consumes a b text → IfSome a (λ rest. rest ≢ []) → IfSome b P
    → ((xs ys : List ℕ) → xs ≢ [] → xs ≡ text ++ ys → P ys → Q xs) → IfSome a Q
behind_some None b text h some p f = tt
behind_some (Some xs) None text h some p f = absurd h
behind_some (Some xs) (Some ys) text h some p f = f xs ys some h p

pub taken_stops : (longest : ℕ) (F : Type 0) (old mid : Reading) (before middle : Option (List ℕ)) (front : List ℕ) (stop : ConfigurationStop) → old.unread ≢ []
    → Taken old mid before middle front
    → RestStops longest F (pending mid middle) front stop → ConfigurationStops longest F (pending old before) stop
taken_stops longest F old mid before middle front NoMemory some t h = tt
taken_stops longest F old mid before middle front Damaged some t h =
    behind_some (pending old before) (pending mid middle) t.lines {P = IsNoRest front} {Q = IsDamagedConfiguration} t.consumes (some_pending old before some) h
    (λ xs ys some cut p. no_configuration xs t.lines front ys some t.gives cut p)
taken_stops longest F old mid before middle front Cut some t h =
    behind_some (pending old before) (pending mid middle) t.lines {P = IsCutRest front} {Q = IsCutConfiguration} t.consumes (some_pending old before some) h
    (λ xs ys some cut p. cut_of xs t.lines front ys some t.gives cut p)
taken_stops longest F old mid before middle front Read some t h = h
taken_stops longest F old mid before middle front TooLong some t h =
    behind_some (pending old before) (pending mid middle) t.lines {P = IsLongRest longest front} {Q = IsLongConfiguration longest} t.consumes
    (some_pending old before some) h (λ xs ys some cut p. long_of longest xs t.lines front ys t.gives cut p)
