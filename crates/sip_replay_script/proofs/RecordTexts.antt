-- Texts that say events as a record does, and what says none.
use Rattle.std.proofs.Common.{◌≡◌, ◌≢◌, ℕ, ◌+◌, ◌<◌, Bool, true, false, List, [], ◌∷◌, ◌++◌, length, Option, Some, None, refl, sym, ap, subst, ◌∙◌, arith, inl, inr}
use Rattle.std.proofs.Common.{append_assoc, append-nil, length-append}
use Rattle.std.specs.Prelude.{count_by, IfSome, if◌then◌else◌}
use Rattle.sip_event.specs.declared.event.Event.{Event}
use Rattle.sip_replay_script.specs.declared.script.DatagramHead.{DatagramHead}
use Rattle.sip_replay_script.specs.declared.script.EventLine.TheVariants.{Head, Whole}
use Rattle.sip_replay_script.specs.declared.read_stop.ReadStop.{ReadStop}
use Rattle.sip_replay_script.specs.declared.read_stop.ReadStop.TheVariants as stops
use Rattle.sip_replay_script.specs.Script.{line_of, datagram_at}
use Rattle.sip_replay_script.specs.Lines.{Reading, GivesLine, IsLine, IsLong, IsUnfinished, HasNoLine, LineStops, is_end, left, pending}
use Rattle.sip_replay_script.specs.Events.{ended, is_dot, FirstStops, GivesDatagram, GivesSaid, IsDamaged, SaysEvents}
use Rattle.sip_replay_script.specs.Recorded.{dot_stop, DotStops, GivesRecorded, IsCutDot, IsCutRecord, IsDamagedRecord, IsNoDot, RecordStops, SaysRecord, SaysRecorded}
use Rattle.sip_replay_script.proofs.CutEvents.{head_is, not_nil}
use Rattle.sip_replay_script.proofs.Damaged.{cut_says, line_begun, line_recorded, said_other}
use Rattle.sip_replay_script.proofs.Datagrams.{behind, behind_any, dot_is, gives_head, gives_whole}
use Rattle.sip_replay_script.proofs.LineEnds.{ends_add}
use Rattle.sip_replay_script.proofs.OneReading.{dot_line, line_stands, no_refusal, not_both, refuses_something, same_line}
use Rattle.sip_replay_script.proofs.WrittenEvents.{no_bytes, recorded_says}

-- ---- lists of them

pub record_says : (events : List Event) (text : List ℕ) → SaysRecord events text → SaysEvents events text
record_says [] text h = h
record_says (event ∷ events) text h = record {
  first = h.first;
  rest = h.rest;
  cut = h.cut;
  says = recorded_says h.first event h.says;
  others = record_says events h.rest h.others;
}

pub record_all : (events more : List Event) (text further : List ℕ) → SaysRecord events text → SaysRecord more further → SaysRecord (events ++ more) (text ++ further)
record_all [] more text further h says = subst (λ l. SaysRecord more (l ++ further)) (sym h) says
record_all (e ∷ events) more text further h says = record {
  first = h.first;
  rest = h.rest ++ further;
  cut = ap (λ l. l ++ further) h.cut ∙ append_assoc h.first h.rest further;
  says = h.says;
  others = record_all events more h.rest further h.others says;
}

pub record_one : (text : List ℕ) (event : Event) → SaysRecorded text event → SaysRecord (event ∷ []) text
record_one text event says = record { first = text; rest = []; cut = sym (append-nil text); says = says; others = refl }

-- ---- what says no event in a script says none in a record

from_damaged : (rest : List ℕ) → IsDamaged rest → IsDamagedRecord rest
from_damaged rest d = record {
  some = refuses_something rest d.none;
  none = λ text further event cut says. no_refusal text further rest event (recorded_says text event says) (sym cut) d.none;
  no_front = λ c. d.no_front (cut_says rest c);
}

pub no_first : (F : Type 0) (script : Option (List ℕ)) (stop : ReadStop) → FirstStops F script stop → RecordStops F script stop
no_first F script stops.NoMemory h = tt
no_first F None stops.Damaged h = tt
no_first F (Some rest) stops.Damaged h = from_damaged rest h
no_first F None stops.Cut h = tt
no_first F (Some rest) stops.Cut h = line_recorded rest h
no_first F script stops.Read h = h

damaged_known : (script : Option (List ℕ)) → IfSome script IsDamaged → IfSome script IsDamagedRecord
damaged_known None h = tt
damaged_known (Some rest) h = from_damaged rest h

pub other_recorded : (old new : Reading) (before after : Option (List ℕ)) → GivesSaid old new before after None → IfSome (pending old before) IsDamagedRecord
other_recorded old new before after s = damaged_known (pending old before) (said_other old new before after s)

-- ---- the line `.`

dot_ends : (more : List ℕ) → count_by is_end (46 ∷ 10 ∷ more) ≡ 0 → ⊥
dot_ends more none = let sum : count_by is_end (46 ∷ 10 ∷ more) ≡ count_by is_end (46 ∷ 10 ∷ []) + count_by is_end more = ends_add (46 ∷ 10 ∷ []) more in
    absurd (omega (arith, none, sum))

true_false : (b : Bool) → b ≡ true → b ≡ false → ⊥
true_false true e h = cc
true_false false e h = cc

not_dot : (line : List ℕ) → is_dot line ≡ false → line ≡ 46 ∷ [] → ⊥
not_dot line other is = true_false (is_dot line) (ap is_dot is) other

-- another line
other_line : (line further : List ℕ) → IsLine line → is_dot line ≡ false → IsNoDot (ended line ++ further)
other_line line further is_line other = record {
  other = λ more e. not_dot line other (same_line line (46 ∷ []) further more is_line.single refl e).0;
  no_front = by_front;
} where
  size : length (ended line ++ further) ≡ length line + 1 + length further
  size = length-append (ended line) further ∙ ap (λ n. n + length further) (length-append line (10 ∷ []))

  by_front : IsCutDot (ended line ++ further) → ⊥
  by_front (inl none) = absurd (omega (arith, size, ap length none))
  by_front (inr dot) =
      let sum : count_by is_end (ended line ++ further) ≡ count_by is_end (ended line) + count_by is_end further = ends_add (ended line) further in
      let one : count_by is_end (ended line) ≡ count_by is_end line + 1 = ends_add line (10 ∷ []) in
      let none : count_by is_end (ended line ++ further) ≡ 0 = ap (count_by is_end) dot in
      absurd (omega (arith, sum, one, none))

long_line : (rest : List ℕ) → IsLong rest → IsNoDot rest
long_line rest l = record {
  other = λ more e. line_stands (46 ∷ []) more dot_line (subst HasNoLine e l.unended);
  no_front = by_front;
} where
  by_front : IsCutDot rest → ⊥
  by_front (inl none) = absurd (let long : 200000 < length rest = l.long in omega (arith, long, ap length none))
  by_front (inr dot) = absurd (let long : 200000 < length rest = l.long in omega (arith, long, ap length dot))

unfinished_line : (seen rest : List ℕ) → IsUnfinished seen rest → is_dot seen ≡ false → IsNoDot rest
unfinished_line seen rest u other = record {
  other = λ more e. dot_ends more (ap (count_by is_end) (sym e ∙ u.all) ∙ u.is_line.single);
  no_front = by_front;
} where
  by_front : IsCutDot rest → ⊥
  by_front (inl none) = u.begun (sym u.all ∙ none)
  by_front (inr dot) = not_dot seen other (sym u.all ∙ dot)

pub line_no_dot : (old new : Reading) (before after : Option (List ℕ)) (line : List ℕ) → GivesLine old new before after line → is_dot line ≡ false
    → IfSome (pending old before) IsNoDot
line_no_dot old new before after line given other =
    behind_any (pending old before) (pending new after) (ended line) {Q = IsNoDot} given.consumes
    (λ xs ys cut. subst IsNoDot (sym cut) (other_line line ys given.is_line other))

cut_dot : (F : Type 0) (rest seen : List ℕ) (dot : Bool) → is_dot seen ≡ dot → IsUnfinished seen rest → DotStops F (Some rest) (if dot then stops.Cut else stops.Damaged)
cut_dot F rest seen true is u = inr (u.all ∙ dot_is seen is)
cut_dot F rest seen false is u = unfinished_line seen rest u is

unknown_dot : (F : Type 0) (dot : Bool) → DotStops F None (if dot then stops.Cut else stops.Damaged)
unknown_dot F true = tt
unknown_dot F false = tt

pub no_dot_stops : (F : Type 0) (script : Option (List ℕ)) (seen : List ℕ) (stop : ReadStop) → LineStops F script seen stop → DotStops F script (dot_stop seen stop)
no_dot_stops F script seen stops.NoMemory h = tt
no_dot_stops F None seen stops.Damaged h = tt
no_dot_stops F (Some rest) seen stops.Damaged h = long_line rest h
no_dot_stops F None seen stops.Cut h = unknown_dot F (is_dot seen)
no_dot_stops F (Some rest) seen stops.Cut h = cut_dot F rest seen (is_dot seen) refl h
no_dot_stops F script seen stops.Read h = h

-- ---- behind the line that begins a datagram

dot_behind : (line : List ℕ) (head : DatagramHead) (text more further : List ℕ) (event : Event) → IsLine line → line_of line ≡ Some (Head head) → SaysRecorded text event
    → text ++ more ≡ ended line ++ further → further ≡ 46 ∷ 10 ∷ more
dot_behind line head text more further event is_line says (inl w) e =
    let lines = same_line w.line line more further w.is_line.single is_line.single (ap (λ (l : List ℕ). l ++ more) (sym w.text_is) ∙ e) in
    absurd (not_both event head (sym w.says ∙ ap line_of lines.0 ∙ says))
dot_behind line head text more further event is_line says (inr d) e =
    sym (same_line d.line line (46 ∷ 10 ∷ more) further d.is_line.single is_line.single
    (sym (ap (λ (l : List ℕ). l ++ more) d.text_is ∙ append_assoc (ended d.line) (46 ∷ 10 ∷ []) more) ∙ e)).1

front_of_dot : (rest more : List ℕ) → more ≢ [] → rest ++ more ≡ 46 ∷ 10 ∷ [] → IsCutDot rest
front_of_dot [] more some e = inl refl
front_of_dot (a ∷ []) more some e = inr (ap (λ (b : ℕ). b ∷ []) (head_is a 46 more (10 ∷ []) e))
front_of_dot (a ∷ b ∷ rest) more some e =
    let size : length (a ∷ b ∷ (rest ++ more)) ≡ 2 = ap length e in
    let both : length (rest ++ more) ≡ length rest + length more = length-append rest more in
    absurd (some (no_length more (omega (arith, size, both))))
  where
    no_length : (xs : List ℕ) → length xs ≡ 0 → xs ≡ []
    no_length [] h = refl
    no_length (x ∷ xs) h = absurd (omega (arith, h))

no_dot_behind : (line : List ℕ) (head : DatagramHead) (rest further : List ℕ) → IsLine line → line_of line ≡ Some (Head head) → rest ≡ ended line ++ further
    → IsNoDot further → IsDamagedRecord rest
no_dot_behind line head rest further is_line says cut d = record {
  some = line_begun line further rest cut;
  none = λ text more event e said. d.other more (dot_behind line head text more further event is_line says said (sym e ∙ cut));
  no_front = λ c. d.no_front (front_of_dot further c.more c.cut
      (dot_behind line head (rest ++ c.more) [] (further ++ c.more) c.event is_line says c.says
      (append-nil (rest ++ c.more) ∙ ap (λ (l : List ℕ). l ++ c.more) cut ∙ append_assoc (ended line) further c.more)));
}

cut_behind : (line : List ℕ) (head : DatagramHead) (rest further : List ℕ) → IsLine line → line_of line ≡ Some (Head head) → rest ≡ ended line ++ further
    → IsCutDot further → IsCutRecord rest
cut_behind line head rest further is_line says cut (inl none) = record {
  more = 46 ∷ 10 ∷ [];
  event = datagram_at head [];
  begun = line_begun line further rest cut;
  cut = not_nil 46 (10 ∷ []);
  says = inr (record {
    line = line;
    head = head;
    is_line = is_line;
    text_is = ap (λ (l : List ℕ). l ++ 46 ∷ 10 ∷ []) (cut ∙ ap (λ (l : List ℕ). ended line ++ l) none ∙ append-nil (ended line));
    says = says;
    event_is = refl;
  });
}
cut_behind line head rest further is_line says cut (inr dot) = record {
  more = 10 ∷ [];
  event = datagram_at head [];
  begun = line_begun line further rest cut;
  cut = not_nil 10 [];
  says = inr (record {
    line = line;
    head = head;
    is_line = is_line;
    text_is = ap (λ (l : List ℕ). l ++ 10 ∷ []) (cut ∙ ap (λ (l : List ℕ). ended line ++ l) dot) ∙ append_assoc (ended line) (46 ∷ []) (10 ∷ []);
    says = says;
    event_is = refl;
  });
}

pub head_recorded_stops : (F : Type 0) (old mid : Reading) (before middle : Option (List ℕ)) (head : DatagramHead) (stop : ReadStop)
    → GivesSaid old mid before middle (Some (Head head)) → DotStops F (pending mid middle) stop
    → RecordStops F (pending old before) stop
head_recorded_stops F old mid before middle head stops.NoMemory s h = tt
head_recorded_stops F old mid before middle head stops.Damaged s h =
    behind (pending old before) (pending mid middle) (ended s.line) {P = IsNoDot} {Q = IsDamagedRecord} s.given.consumes h
    (λ xs ys cut p. no_dot_behind s.line head xs ys s.given.is_line s.says cut p)
head_recorded_stops F old mid before middle head stops.Cut s h =
    behind (pending old before) (pending mid middle) (ended s.line) {P = IsCutDot} {Q = IsCutRecord} s.given.consumes h
    (λ xs ys cut p. cut_behind s.line head xs ys s.given.is_line s.says cut p)
head_recorded_stops F old mid before middle head stops.Read s h = h

-- ---- an event is read

pub whole_recorded : (old new : Reading) (before after : Option (List ℕ)) (event : Event) → GivesSaid old new before after (Some (Whole event))
    → GivesRecorded old new before after event
unfolding gives_whole
whole_recorded old new before after event s = record {
  given = gives_whole old new before after s.line event s.given s.says;
  recorded = inl (record { line = s.line; is_line = s.given.is_line; text_is = refl; says = s.says });
}

no_lines_but_dot : (mid new : Reading) (middle after : Option (List ℕ)) → GivesLine mid new middle after (46 ∷ []) → GivesDatagram mid new middle after []
no_lines_but_dot mid new middle after given = record { text = 46 ∷ 10 ∷ []; says = no_bytes; consumes = given.consumes; number = given.number }

pub head_recorded : (old mid new : Reading) (before middle after : Option (List ℕ)) (head : DatagramHead) (event : Event)
    → GivesSaid old mid before middle (Some (Head head)) → GivesLine mid new middle after (46 ∷ []) → event ≡ datagram_at head []
    → GivesRecorded old new before after event
unfolding gives_head no_lines_but_dot
head_recorded old mid new before middle after head event s dot is = record {
  given = gives_head old mid new before middle after s.line [] head event s.given s.says (no_lines_but_dot mid new middle after dot)
      (let fewer : left new < left mid = dot.fewer in omega (arith, fewer)) is;
  recorded = inr (record { line = s.line; head = head; is_line = s.given.is_line; text_is = refl; says = s.says; event_is = is });
}
