-- The lines of a datagram, one after the other.
use Rattle.std.proofs.Common.{◌≡◌, ℕ, zero, suc, ◌+◌, ◌≤◌, ◌<◌, List, [], ◌∷◌, ◌++◌, length, take, drop, Bool, true, false, Option, Some, None, inl, inr, refl, sym}
use Rattle.std.proofs.Common.{subst, ◌∙◌, ap, ap₂, arith, append_assoc, append-nil, length-append, take-append-drop}
use Rattle.std.specs.List.{flat_map, list_any}
use Rattle.std.specs.Str.{bytes_eq}
use Rattle.std.specs.Prelude.{◌||◌, ◌&&◌, ◌==◌, nat_lt, slice_index, count_by, IfSome, if◌then◌else◌}
use Rattle.std.specs.Io.KnownBytes.{Consumes, Keeps, IsAtEnd}
use Rattle.std.proofs.KnownBytes.{Consumes-nil, Consumes-trans}
use Rattle.std.proofs.lemmas.Grind.{flat_map-append}
use Rattle.std.proofs.lemmas.List.Folds.{list_any-append}
use Rattle.std.proofs.lemmas.List.Elements.{All-push, All-append}
use Rattle.std.proofs.lemmas.Slice.Eq.{bytes_eq-Decides}
use Rattle.sip_event.specs.declared.event.Event.{Event}
use Rattle.sip_replay_script.specs.declared.script.DatagramHead.{DatagramHead}
use Rattle.sip_replay_script.specs.declared.script.EventLine.{EventLine}
use Rattle.sip_replay_script.specs.declared.script.EventLine.TheVariants.{Head, Whole}
use Rattle.sip_replay_script.specs.Script.{line_of, datagram_at, unstuffed, SaysAtOnce}
use Rattle.sip_replay_script.specs.Lines.{Reading, BeginsWith, PassesLine, IsLine, IsLong, IsUnfinished, is_end, pending, left, GivesLine, IsOver, LineStops}
use Rattle.sip_replay_script.specs.declared.read_stop.ReadStop.{ReadStop}
use Rattle.sip_replay_script.specs.declared.read_stop.ReadStop.TheVariants as stops
use Rattle.sip_replay_script.specs.Gathered.{AddsLines}
use Rattle.std.proofs.lemmas.List.{take_all, drop_all, drop-append-le}
use Rattle.sip_replay_script.proofs.Keeping.{front_of_both}
use Rattle.sip_replay_script.proofs.LineEnds.{ends_add, one_end}
use Rattle.sip_replay_script.specs.Events.{BeginsOther, ended, is_dot, said, SaysBytes, KeepsAll, KeepsLine, KeepsLines, GivesDatagram, GivesEvent, GivesSaid}
use Rattle.sip_replay_script.specs.Events.{IsCutDatagram, IsLongDatagram, DatagramStops}

-- the lines so far, and the bytes that are kept of what they say
pub record Gathers (old new : Reading) (before after : Option (List ℕ)) (bytes : List ℕ) : Type 0 where
  pub text : List ℕ
  pub whole : List ℕ
  pub says : SaysBytes text whole
  pub consumes : Consumes (pending old before) (pending new after) text
  pub number : new.number ≡ old.number + count_by is_end text
  pub kept : bytes ≡ take 65508 whole

pub no_lines : SaysBytes [] []
no_lines = record { lines = []; text_is = refl; are_lines = λ k d lt. absurd (omega arith); no_dot = refl; bytes_are = refl }

pub gathers_none : (r : Reading) (before : Option (List ℕ)) → Gathers r r before before []
gathers_none r before = record {
  text = [];
  whole = [];
  says = no_lines;
  consumes = Consumes-nil (pending r before);
  number = omega arith;
  kept = refl;
}

or_false : (a b : Bool) → a ≡ false → b ≡ false → (a || (b || false)) ≡ false
or_false false false h k = refl
or_false false true h k = k
or_false true b h k = grind arith

neither : (a b : Bool) → a ≡ false → b ≡ false → (a || b) ≡ false
neither false b h k = k
neither true b h k = grind arith

none_of_both : (p : List ℕ → Bool) (xs : List (List ℕ)) (x : List ℕ) → list_any p xs ≡ false → p x ≡ false → list_any p (xs ++ x ∷ []) ≡ false
none_of_both p xs x none fails = list_any-append p xs (x ∷ []) ∙ or_false (list_any p xs) (p x) none fails

pub says_more : (text whole line : List ℕ) → SaysBytes text whole → IsLine line → is_dot line ≡ false → SaysBytes (text ++ ended line) (whole ++ said line)
says_more text whole line says is_line fails = record {
  lines = says.lines ++ line ∷ [];
  text_is = ap (λ l. l ++ ended line) says.text_is ∙ sym (flat_map-append ended says.lines (line ∷ [])
      ∙ ap (λ l. flat_map ended says.lines ++ l) (append-nil (ended line)));
  are_lines = All-push IsLine says.lines line says.are_lines is_line;
  no_dot = none_of_both is_dot says.lines line says.no_dot fails;
  bytes_are = ap (λ l. l ++ said line) says.bytes_are ∙ sym (flat_map-append said says.lines (line ∷ [])
      ∙ ap (λ l. flat_map said says.lines ++ l) (append-nil (said line)));
}

-- how many lines were given
more_lines : (old mid new : Reading) (before after : Option (List ℕ)) (text line : List ℕ) → mid.number ≡ old.number + count_by is_end text
    → GivesLine mid new before after line → new.number ≡ old.number + count_by is_end (text ++ ended line)
more_lines old mid new before after text line number given =
    let one : count_by is_end (ended line) ≡ 1 = one_end line given.is_line in
    let sum : count_by is_end (text ++ ended line) ≡ count_by is_end text + count_by is_end (ended line) = ends_add text (ended line) in
    let next : new.number ≡ mid.number + 1 = given.number in
    omega (arith, number, next, one, sum)

-- what is kept of two texts, the first of which was cut
kept_more : (whole more bytes after : List ℕ) → bytes ≡ take 65508 whole → after ≡ take 65508 (bytes ++ more) → after ≡ take 65508 (whole ++ more)
kept_more whole more bytes after is0 is = is ∙ ap (λ l. take 65508 (l ++ more)) is0 ∙ front_of_both 65508 whole more

-- one line more
pub gathers_more : (old mid new : Reading) (before middle after : Option (List ℕ)) (bytes line kept : List ℕ) → Gathers old mid before middle bytes
    → GivesLine mid new middle after line → is_dot line ≡ false
    → kept ≡ take 65508 (bytes ++ said line) → Gathers old new before after kept
gathers_more old mid new before middle after bytes line kept g given fails is = record {
  text = g.text ++ ended line;
  whole = g.whole ++ said line;
  says = says_more g.text g.whole line g.says given.is_line fails;
  consumes = Consumes-trans (pending old before) (pending mid middle) (pending new after) g.text (ended line) g.consumes given.consumes;
  number = more_lines old mid new middle after g.text line g.number given;
  kept = kept_more g.whole (said line) bytes kept g.kept is;
}

-- ---- lines that stand whole among what was read

-- the next line, passed
pub passes_line : (old new : Reading) (line : List ℕ) → BeginsWith old.unread line → new.unread ≡ drop (length line + 1) old.unread → new.number ≡ old.number + 1
    → new.asks ≡ old.asks → PassesLine old new line
passes_line old new line begins unread number asks =
    let cut : old.unread ≡ ended line ++ begins.rest = begins.cut ∙ sym (append_assoc line (10 ∷ []) begins.rest) in
    let size : length (ended line) ≡ length line + 1 = length-append line (10 ∷ []) in
    let rest : new.unread ≡ begins.rest =
    unread ∙ ap (drop (length line + 1)) cut ∙ drop-append-le (length line + 1) (ended line) begins.rest (omega (arith, size))
    ∙ ap (λ l. l ++ begins.rest) (drop_all (length line + 1) (ended line) (omega (arith, size))) in
    record { is_line = begins.is_line; unread = begins.cut ∙ ap (λ l. line ++ 10 ∷ l) (sym rest); number = number; asks = asks }

pub keeps_next : (old new : Reading) (line before after : List ℕ) → PassesLine old new line → is_dot line ≡ false → after ≡ take 65508 (before ++ said line)
    → KeepsLine old new before after
keeps_next old new line before after passes fails kept = record {
  line = line;
  is_line = passes.is_line;
  no_dot = fails;
  unread = passes.unread ∙ sym (append_assoc line (10 ∷ []) new.unread);
  number = passes.number;
  kept = kept;
}

pub keeps_less : (old new : Reading) (before after : List ℕ) → KeepsLine old new before after → length new.unread < length old.unread
keeps_less old new before after one =
    let both : length (ended one.line ++ new.unread) ≡ length (ended one.line) + length new.unread = length-append (ended one.line) new.unread in
    let size : length (ended one.line) ≡ length one.line + 1 = length-append one.line (10 ∷ []) in
    omega (arith, ap length one.unread, both, size)

-- one of them more
pub keeps_more : (old mid new : Reading) (before middle after : List ℕ) → KeepsLines old mid before middle → KeepsLine mid new middle after
    → KeepsLines old new before after
keeps_more old mid new before middle after all one = record {
  text = all.text ++ ended one.line;
  whole = all.whole ++ said one.line;
  says = says_more all.text all.whole one.line all.says one.is_line one.no_dot;
  unread = all.unread ∙ ap (λ l. all.text ++ l) one.unread ∙ sym (append_assoc all.text (ended one.line) new.unread);
  number =
      let first : mid.number ≡ old.number + count_by is_end all.text = all.number in
      let next : new.number ≡ mid.number + 1 = one.number in
      let single : count_by is_end (ended one.line) ≡ 1 = one_end one.line one.is_line in
      let sum : count_by is_end (all.text ++ ended one.line) ≡ count_by is_end all.text + count_by is_end (ended one.line) = ends_add all.text (ended one.line) in
      omega (arith, first, next, single, sum);
  kept = kept_more (before ++ all.whole) (said one.line) middle after all.kept one.kept ∙ ap (take 65508) (append_assoc before all.whole (said one.line));
}

pub says_both : (text whole more further : List ℕ) → SaysBytes text whole → SaysBytes more further → SaysBytes (text ++ more) (whole ++ further)
says_both text whole more further a b = record {
  lines = a.lines ++ b.lines;
  text_is = ap₂ (λ (l m : List ℕ). l ++ m) a.text_is b.text_is ∙ sym (flat_map-append ended a.lines b.lines);
  are_lines = All-append IsLine a.lines b.lines a.are_lines b.are_lines;
  no_dot = list_any-append is_dot a.lines b.lines ∙ neither (list_any is_dot a.lines) (list_any is_dot b.lines) a.no_dot b.no_dot;
  bytes_are = ap₂ (λ (l m : List ℕ). l ++ m) a.bytes_are b.bytes_are ∙ sym (flat_map-append said a.lines b.lines);
}

-- and others behind them
pub keeps_both : (old mid new : Reading) (before middle after : List ℕ) → KeepsLines old mid before middle → KeepsLines mid new middle after
    → KeepsLines old new before after
keeps_both old mid new before middle after all more = record {
  text = all.text ++ more.text;
  whole = all.whole ++ more.whole;
  says = says_both all.text all.whole more.text more.whole all.says more.says;
  unread = all.unread ∙ ap (λ l. all.text ++ l) more.unread ∙ sym (append_assoc all.text more.text new.unread);
  number =
      let first : mid.number ≡ old.number + count_by is_end all.text = all.number in
      let next : new.number ≡ mid.number + count_by is_end more.text = more.number in
      let sum : count_by is_end (all.text ++ more.text) ≡ count_by is_end all.text + count_by is_end more.text = ends_add all.text more.text in
      omega (arith, first, next, sum);
  kept = kept_more (before ++ all.whole) more.whole middle after all.kept more.kept ∙ ap (take 65508) (append_assoc before all.whole more.whole);
}

unread_passed : (old new : Reading) (rest : Option (List ℕ)) (text : List ℕ) → old.unread ≡ text ++ new.unread → Consumes (pending old rest) (pending new rest) text
unread_passed old new None text is = tt
unread_passed old new (Some xs) text is = ap (λ l. l ++ xs) is ∙ append_assoc text new.unread xs

-- and all of them, behind the lines so far
pub gathers_lines : (old mid new : Reading) (before middle : Option (List ℕ)) (bytes kept : List ℕ) → Gathers old mid before middle bytes → KeepsLines mid new bytes kept
    → Gathers old new before middle kept
gathers_lines old mid new before middle bytes kept g more = record {
  text = g.text ++ more.text;
  whole = g.whole ++ more.whole;
  says = says_both g.text g.whole more.text more.whole g.says more.says;
  consumes = Consumes-trans (pending old before) (pending mid middle) (pending new middle) g.text more.text g.consumes
      (unread_passed mid new middle more.text more.unread);
  number =
      let first : mid.number ≡ old.number + count_by is_end g.text = g.number in
      let next : new.number ≡ mid.number + count_by is_end more.text = more.number in
      let sum : count_by is_end (g.text ++ more.text) ≡ count_by is_end g.text + count_by is_end more.text = ends_add g.text more.text in
      omega (arith, first, next, sum);
  kept = kept_more g.whole more.whole bytes kept g.kept more.kept;
}

-- a line that was passed is given
pub given_passed : (old new : Reading) (rest : Option (List ℕ)) (line : List ℕ) → PassesLine old new line → GivesLine old new rest rest line
given_passed old new rest line passes =
    let cut : old.unread ≡ ended line ++ new.unread = passes.unread ∙ sym (append_assoc line (10 ∷ []) new.unread) in
    let both : length (ended line ++ new.unread) ≡ length (ended line) + length new.unread = length-append (ended line) new.unread in
    let size : length (ended line) ≡ length line + 1 = length-append line (10 ∷ []) in
    let asks : new.asks ≡ old.asks = passes.asks in
    record {
      is_line = passes.is_line;
      consumes = unread_passed old new rest (ended line) cut;
      number = passes.number;
      fewer = omega (arith, ap length cut, both, size, asks);
    }

pub dot_is : (line : List ℕ) → is_dot line ≡ true → line ≡ 46 ∷ []
dot_is line is = (bytes_eq-Decides line (46 ∷ [])).0 is

-- the dot behind them
pub gathers_all : (old mid new : Reading) (before middle after : Option (List ℕ)) (bytes line : List ℕ) → Gathers old mid before middle bytes
    → GivesLine mid new middle after line → is_dot line ≡ true → GivesDatagram old new before after bytes
gathers_all old mid new before middle after bytes line g given is = record {
  text = g.text ++ ended line;
  says = record { before = g.text; whole = g.whole; says = g.says; text_is = ap (λ l. g.text ++ ended l) (dot_is line is); kept = g.kept };
  consumes = Consumes-trans (pending old before) (pending mid middle) (pending new after) g.text (ended line) g.consumes given.consumes;
  number = more_lines old mid new middle after g.text line g.number given;
}

-- lines and the dot that stood whole among what was read
pub gathers_dot : (old mid new : Reading) (before middle : Option (List ℕ)) (bytes kept : List ℕ) → Gathers old mid before middle bytes → KeepsAll mid new bytes kept
    → GivesDatagram old new before middle kept
gathers_dot old mid new before middle bytes kept g all =
    gathers_all old all.mid new before middle middle kept (46 ∷ []) (gathers_lines old mid all.mid before middle bytes kept g all.lines)
    (given_passed all.mid new middle (46 ∷ []) all.dot) refl

pub head_lines : (old mid new : Reading) (before middle : Option (List ℕ)) (line text : List ℕ) → GivesLine old mid before middle line
    → new.number ≡ mid.number + count_by is_end text → new.number ≡ old.number + count_by is_end (ended line ++ text)
head_lines old mid new before middle line text given number =
    let one : count_by is_end (ended line) ≡ 1 = one_end line given.is_line in
    let sum : count_by is_end (ended line ++ text) ≡ count_by is_end (ended line) + count_by is_end text = ends_add (ended line) text in
    let first : mid.number ≡ old.number + 1 = given.number in
    omega (arith, number, first, one, sum)

-- a line that begins a datagram, and its lines
unfoldable pub gives_head : (old mid new : Reading) (before middle after : Option (List ℕ)) (line bytes : List ℕ) (head : DatagramHead) (event : Event)
    → GivesLine old mid before middle line → line_of line ≡ Some (Head head)
    → GivesDatagram mid new middle after bytes → left new ≤ left mid → event ≡ datagram_at head bytes → GivesEvent old new before after event
gives_head old mid new before middle after line bytes head event given says d le is = record {
  text = ended line ++ d.text;
  says = inr (record { line = line; head = head; rest = d.text; bytes = bytes; is_line = given.is_line; text_is = refl; says = says; lines = d.says; event_is = is });
  consumes = Consumes-trans (pending old before) (pending mid middle) (pending new after) (ended line) d.text given.consumes d.consumes;
  number = head_lines old mid new before middle line d.text given d.number;
  fewer = omega (arith, given.fewer);
}

-- a line that says an event by itself
unfoldable pub gives_whole : (old new : Reading) (before after : Option (List ℕ)) (line : List ℕ) (event : Event) → GivesLine old new before after line
    → line_of line ≡ Some (Whole event) → GivesEvent old new before after event
gives_whole old new before after line event given says = record {
  text = ended line;
  says = inl (record { line = line; is_line = given.is_line; text_is = refl; says = says });
  consumes = given.consumes;
  number = let one : count_by is_end (ended line) ≡ 1 = one_end line given.is_line in given.number ∙ ap (λ n. old.number + n) (sym one);
  fewer = given.fewer;
}

-- ---- where no event stands

-- what is left behind a text that was read
pub behind : (a b : Option (List ℕ)) (text : List ℕ) {P Q : List ℕ → Type 0} → Consumes a b text → IfSome b P → ((xs ys : List ℕ) → xs ≡ text ++ ys → P ys → Q xs)
    → IfSome a Q
behind None b text h p f = tt
behind (Some xs) None text h p f = absurd h
behind (Some xs) (Some ys) text h p f = f xs ys h p

pub behind_any : (a b : Option (List ℕ)) (text : List ℕ) {Q : List ℕ → Type 0} → Consumes a b text → ((xs ys : List ℕ) → xs ≡ text ++ ys → Q xs) → IfSome a Q
behind_any None b text h f = tt
behind_any (Some xs) None text h f = absurd h
behind_any (Some xs) (Some ys) text h f = f xs ys h

pub nothing_left : (b c : Option (List ℕ)) → Keeps b c → IsAtEnd c → IfSome b (λ ys. ys ≡ [])
nothing_left None c k e = tt
nothing_left (Some ys) None k e = absurd k
nothing_left (Some ys) (Some zs) k e = sym k ∙ e

-- the lines of a datagram stop
pub datagram_stops : (F : Type 0) (old mid : Reading) (before middle : Option (List ℕ)) (bytes seen : List ℕ) (stop : ReadStop) → Gathers old mid before middle bytes
    → LineStops F (pending mid middle) seen stop
    → DatagramStops F (pending old before) stop
datagram_stops F old mid before middle bytes seen stops.NoMemory g h = tt
datagram_stops F old mid before middle bytes seen stops.Damaged g h =
    behind (pending old before) (pending mid middle) g.text {P = IsLong} {Q = IsLongDatagram} g.consumes h
    (λ xs ys cut p. record { front = g.text; bytes = g.whole; more = ys; cut = cut; says = g.says; long = p })
datagram_stops F old mid before middle bytes seen stops.Cut g h =
    behind (pending old before) (pending mid middle) g.text {P = IsUnfinished seen} {Q = IsCutDatagram} g.consumes h
    (λ xs ys cut p. record { front = g.text; bytes = g.whole; more = ys; cut = cut; says = g.says; is_line = subst IsLine (sym p.all) p.is_line })
datagram_stops F old mid before middle bytes seen stops.Read g h = h

no_line_yet : IsLine []
no_line_yet = record { short = omega arith; single = refl }

-- the script ends inside one
pub datagram_over : (old mid new : Reading) (before middle after : Option (List ℕ)) (bytes : List ℕ) → Gathers old mid before middle bytes → IsOver mid new middle after
    → IfSome (pending old before) IsCutDatagram
datagram_over old mid new before middle after bytes g over =
    behind (pending old before) (pending mid middle) g.text {P = λ ys. ys ≡ []} {Q = IsCutDatagram} g.consumes
    (nothing_left (pending mid middle) (pending new after) over.kept over.at_end)
    (λ xs ys cut p. record { front = g.text; bytes = g.whole; more = ys; cut = cut; says = g.says; is_line = subst IsLine (sym p) no_line_yet })

-- ---- what the first line of an event says

pub said_passed : (old new : Reading) (rest : Option (List ℕ)) (line : List ℕ) (said : Option EventLine) → PassesLine old new line → line_of line ≡ said
    → GivesSaid old new rest rest said
said_passed old new rest line said passes says = record { line = line; given = given_passed old new rest line passes; says = says }

-- a line that is read at once

pub at_once_fits : (unread seen : List ℕ) (said : EventLine) (count : ℕ) → SaysAtOnce seen said count → seen ≡ unread → count < length unread
at_once_fits unread seen said count found same =
    let size : length found.line ≡ count = found.size in
    omega (arith, ap length (sym same ∙ found.begins.cut), length-append found.line (10 ∷ found.begins.rest), size)

pub at_once_passed : (old new : Reading) (rest : Option (List ℕ)) (seen : List ℕ) (said : EventLine) (count : ℕ) → SaysAtOnce seen said count → seen ≡ old.unread
    → new.unread ≡ drop (count + 1) old.unread
    → new.number ≡ old.number + 1 → new.asks ≡ old.asks → GivesSaid old new rest rest (Some said)
at_once_passed old new rest seen said count found same unread number asks =
    said_passed old new rest found.line (Some said)
    (passes_line old new found.line (subst (λ l. BeginsWith l found.line) same found.begins) (unread ∙ ap (λ n. drop (n + 1) old.unread) (sym found.size)) number asks)
    found.says

pub said_whole : (old new : Reading) (before after : Option (List ℕ)) (event : Event) → GivesSaid old new before after (Some (Whole event))
    → GivesEvent old new before after event
said_whole old new before after event s = gives_whole old new before after s.line event s.given s.says

pub said_head : (old mid new : Reading) (before middle after : Option (List ℕ)) (bytes : List ℕ) (head : DatagramHead) (event : Event)
    → GivesSaid old mid before middle (Some (Head head)) → GivesDatagram mid new middle after bytes
    → left new ≤ left mid → event ≡ datagram_at head bytes → GivesEvent old new before after event
said_head old mid new before middle after bytes head event s d le is = gives_head old mid new before middle after s.line bytes head event s.given s.says d le is

-- ---- a line that begins with no dot

pub not_dot : (text : List ℕ) (count : ℕ) → (slice_index text 0 == 46) ≡ false → is_dot (take count text) ≡ false
not_dot text zero e = refl
not_dot [] (suc n) e = refl
not_dot (x ∷ xs) (suc n) e = rw e refl

and_false : (a : Bool) → (a && false) ≡ false
and_false true = refl
and_false false = refl

pub not_stuffed : (text : List ℕ) (count : ℕ) → (slice_index text 0 == 46) ≡ false → unstuffed (take count text) ≡ take count text
not_stuffed text zero e = refl
not_stuffed [] (suc n) e = refl
not_stuffed (x ∷ xs) (suc n) e =
    let line = x ∷ take n xs in
    ap (λ t. if nat_lt 0 (length line) && t then take n xs else line) e ∙ ap (λ t. if t then take n xs else line) (and_false (nat_lt 0 (length line)))

-- ---- the dot, and a line that isn't it

pub passes_dot : (old new : Reading) → take 2 old.unread ≡ 46 ∷ 10 ∷ [] → new.unread ≡ drop 2 old.unread → new.number ≡ old.number + 1 → new.asks ≡ old.asks
    → PassesLine old new (46 ∷ [])
passes_dot old new front unread number asks = record {
  is_line = record { short = omega arith; single = refl };
  unread = sym (take-append-drop 2 old.unread) ∙ ap (λ l. l ++ drop 2 old.unread) front ∙ ap (λ l. 46 ∷ 10 ∷ l) (sym unread);
  number = number;
  asks = asks;
}

pub begins_other : (unread : List ℕ) → bytes_eq (take 2 unread) (46 ∷ 10 ∷ []) ≡ false → BeginsOther unread
begins_other unread other [] begins = refl
begins_other unread other (x ∷ []) begins = sym (ap (λ l. bytes_eq (take 2 l) (46 ∷ 10 ∷ [])) begins.cut) ∙ other
begins_other unread other (x ∷ y ∷ more) begins = and_false (x == 46)

pub too_short : (unread : List ℕ) → length unread < 2 → bytes_eq (take 2 unread) (46 ∷ 10 ∷ []) ≡ false
too_short [] lt = refl
too_short (x ∷ []) lt = and_false (x == 46)
too_short (x ∷ y ∷ more) lt = absurd (omega (arith, lt))

-- ---- lines that were copied where they were found

pub keeps_added : (old new : Reading) (before after : List ℕ) (count lines : ℕ) → AddsLines old.unread before after count lines → new.unread ≡ drop count old.unread
    → new.number ≡ old.number + lines → KeepsLines old new before after
keeps_added old new before after count lines adds unread number =
    let short : length (before ++ adds.whole) ≤ 65508 = subst (λ (l : List ℕ). length l ≤ 65508) adds.added adds.short in
    record {
      text = take count old.unread;
      whole = adds.whole;
      says = adds.says;
      unread = sym (take-append-drop count old.unread) ∙ ap (λ l. take count old.unread ++ l) (sym unread);
      number = number ∙ ap (λ n. old.number + n) (sym adds.counted);
      kept = adds.added ∙ sym (take_all 65508 (before ++ adds.whole) short);
    }
