-- Text that begins with no event: the front of an event's text, or damaged.
use Rattle.std.proofs.Common.{◌≡◌, ◌≢◌, ℕ, ◌+◌, ◌-◌, ◌<◌, ◌≤◌, Bool, true, false, List, [], ◌∷◌, ◌++◌, length, take, drop, take-append-drop, Option, Some, None, refl}
use Rattle.std.proofs.Common.{sym, ap, subst, ◌∙◌, arith, inl, inr, append_assoc, append-nil, length-append, length-drop}
use Rattle.std.specs.Prelude.{◌⊎◌, ◌↔◌, count_by, codes, is_some, IfSome, IsSome, IsTrue}
use Rattle.std.specs.List.{list_all}
use Rattle.std.proofs.lemmas.Bool.{cases_Bool}
use Rattle.std.proofs.lemmas.List.{take-append-le, take_all}
use Rattle.std.proofs.lemmas.Slice.Eq.{bytes_eq-Decides}
use Rattle.sip_replay_script.specs.declared.script.DatagramHead.{DatagramHead}
use Rattle.sip_replay_script.specs.declared.script.EventLine.{EventLine}
use Rattle.sip_replay_script.specs.declared.script.EventLine.TheVariants.{Head, Whole}
use Rattle.sip_replay_script.specs.declared.read_stop.ReadStop.{ReadStop}
use Rattle.sip_replay_script.specs.declared.read_stop.ReadStop.TheVariants as stops
use Rattle.sip_replay_script.specs.Script.{line_of, datagram_at}
use Rattle.sip_replay_script.specs.Lines.{Reading, IsLine, IsLong, IsUnfinished, HasNoLine, LineStops, is_end, pending}
use Rattle.sip_replay_script.specs.Events.{ended, is_dot, said, BeginsEvent, BeginsLine, EndsAs, StopsAt, StopsIn, SaysDatagram, SaysEvent, IsCutDatagram, IsCutEvent}
use Rattle.sip_replay_script.specs.Events.{IsCutLine, IsCutShort, IsDamaged, IsLongDatagram, IsNoEvent, IsOtherLine, GivesSaid, DatagramStops, FirstStops, ReadStops}
use Rattle.sip_replay_script.specs.Recorded.{IsCutRecord}
use Rattle.sip_uri.specs.Host.{is_not}
use Rattle.sip_uri.proofs.Tests.{and_both, drop_front}
use Rattle.sip_replay_script.proofs.LineEnds.{ends_add}
use Rattle.sip_replay_script.proofs.Datagrams.{behind, behind_any, says_more}
use Rattle.sip_replay_script.proofs.CutEvents.{cut_at, head_is, no_line, not_nil}
use Rattle.sip_replay_script.proofs.OneReading.{no_refusal}
use Rattle.sip_replay_script.proofs.WrittenEvents.{no_end, recorded_says}
use Rattle.sip_replay_script.proofs.Samples.{Finished, HasSample}
use Rattle.sip_replay_script.proofs.CutLines.{DatagramLine, FaultLine, HexLine, Says, TextLine, TimeLine, datagram_says_some, datagram_sample, fault_says_some}
use Rattle.sip_replay_script.proofs.CutLines.{fault_sample, hex_says_some, hex_sample, line_cases, text_says_some, text_sample, time_says_some, time_sample}

-- ---- the front of a line that begins an event

-- it ends as the shortest line `text` does, or by one of two digits
abbrev pub EndsInText : List ℕ → Type 0
EndsInText text =
    EndsAs text (codes "text 0 0.0.0.0:1 00000000000000000000000000000000 n") ⊎ (EndsAs text (codes "0") ⊎ EndsAs text (codes "f"))

-- or as one of the other shortest lines
pub EndsSo : List ℕ → Type 0
EndsSo text =
    EndsAs text (codes "datagram 0 0.0.0.0:1 00000000000000000000000000000000") ⊎ (EndsInText text
    ⊎ (EndsAs text (codes "hex 0 0.0.0.0:1 00000000000000000000000000000000 00") ⊎ (EndsAs text (codes "time 0") ⊎ EndsAs text (codes "fault 0 0/0"))))

says_some : (line : List ℕ) → IsSome (line_of line) → Says line
says_some line e = by_said (line_of line) refl e
  where
    by_said : (o : Option EventLine) → line_of line ≡ o → IsSome o → Says line
    by_said None is e = absurd cc
    by_said (Some said) is e = record { said = said; says = is }

finished : (A : List ℕ → Type 0) (sample text more : List ℕ) → ((line : List ℕ) → A line → Says line) → length (text ++ more) ≤ 200000 → Finished A sample text more
    → EndsAs text sample
finished A sample text more says short f =
    let said : Says (text ++ f.tail) = says (text ++ f.tail) f.accepts in
    let fits : length f.tail ≤ length more = f.short in
    let whole : length (text ++ more) ≡ length text + length more = length-append text more in
    let size : length (text ++ f.tail) ≡ length text + length f.tail = length-append text f.tail in
    record { front = f.front; tail = f.tail; cut = f.cut; begins = record { short = omega (arith, short, fits, whole, size); says = ap is_some said.says } }

ends_by : (A : List ℕ → Type 0) (sample text more : List ℕ) → HasSample A sample → ((line : List ℕ) → A line → Says line) → length (text ++ more) ≤ 200000
    → A (text ++ more) → EndsAs text sample
ends_by A sample text more h says short is = finished A sample text more says short (h.finishes text more is)

ends_in_text : (text more : List ℕ) → length (text ++ more) ≤ 200000 → TextLine (text ++ more) → EndsInText text
ends_in_text text more short is = elim (text_sample.finishes text more is) [
  | inl f ↦ inl (finished TextLine _ text more text_says_some short f)
  | inr other ↦ elim other [
    | inl f ↦ inr (inl (finished TextLine _ text more text_says_some short f))
    | inr f ↦ inr (inr (finished TextLine _ text more text_says_some short f))
  ]
]

pub ends_so : (text : List ℕ) → BeginsLine text → EndsSo text
unfolding EndsSo
ends_so text b =
    let s : Says (text ++ b.more) = says_some (text ++ b.more) b.begins.says in
    let short : length (text ++ b.more) ≤ 200000 = b.begins.short in
    elim (line_cases (text ++ b.more) s.said s.says) [
      | inl d ↦ inl (ends_by DatagramLine _ text b.more datagram_sample datagram_says_some short d)
      | inr other ↦ elim other [
        | inl x ↦ inr (inl (ends_in_text text b.more short x))
        | inr third ↦ elim third [
          | inl h ↦ inr (inr (inl (ends_by HexLine _ text b.more hex_sample hex_says_some short h)))
          | inr last ↦ elim last [
            | inl t ↦ inr (inr (inr (inl (ends_by TimeLine _ text b.more time_sample time_says_some short t))))
            | inr f ↦ inr (inr (inr (inr (ends_by FaultLine _ text b.more fault_sample fault_says_some short f))))
          ]
        ]
      ]
    ]

pub begins_so : (text sample : List ℕ) → EndsAs text sample → BeginsLine text
begins_so text sample e = record { more = e.tail; begins = e.begins }

-- ---- text without LF

-- a line that a text without LF begins goes on behind it
pub record Front (line text : List ℕ) : Type 0 where
  pub more : List ℕ
  pub is : line ≡ text ++ more

ends_inside : (m more tail : List ℕ) → count_by is_end m ≡ 0 → 10 ∷ tail ≡ m ++ more → m ≡ []
ends_inside [] more tail none e = refl
ends_inside (x ∷ m) more tail none e =
    let here : 10 ≡ x = head_is 10 x tail (m ++ more) e in
    let one : count_by is_end (x ∷ []) ≡ 1 = ap (λ (k : ℕ). count_by is_end (k ∷ [])) (sym here) in
    absurd (let sum : count_by is_end (x ∷ m) ≡ count_by is_end (x ∷ []) + count_by is_end m = ends_add (x ∷ []) m in omega (arith, none, one, sum))

pub front_of_line : (line tail text more : List ℕ) → count_by is_end text ≡ 0 → line ++ 10 ∷ tail ≡ text ++ more → Front line text
front_of_line line tail text more none e =
    elim (cut_at line (10 ∷ tail) text more e) [
      | inl c ↦ record { more = c.more; is = c.is }
      | inr c ↦
          let sum : count_by is_end (line ++ c.more) ≡ count_by is_end line + count_by is_end c.more = ends_add line c.more in
          let single : count_by is_end c.more ≡ 0 = omega (arith, none, ap (count_by is_end) c.is, sum) in
          let same : text ≡ line = c.is ∙ ap (λ (l : List ℕ). line ++ l) (ends_inside c.more more tail single c.left) ∙ append-nil line in
          record { more = []; is = sym same ∙ sym (append-nil text) }
    ]

begins_by : (line text : List ℕ) (said : EventLine) → IsLine line → line_of line ≡ Some said → Front line text → BeginsLine text
begins_by line text said is_line says f = record {
  more = f.more;
  begins = record {
    short = let short : length line ≤ 200000 = is_line.short in omega (arith, short, ap length f.is);
    says = ap (λ (l : List ℕ). is_some (line_of l)) (sym f.is) ∙ ap is_some says;
  };
}

-- what was cut in its first line is the front of one
begun_line : (rest : List ℕ) → IsLine rest → IsCutEvent rest → BeginsLine rest
begun_line rest is_line c = by_says (rest ++ c.more) refl c.says
  where
    by_says : (text : List ℕ) → text ≡ rest ++ c.more → SaysEvent text c.event → BeginsLine rest
    by_says text is (inl w) = begins_by w.line rest (Whole c.event) w.is_line w.says (front_of_line w.line [] rest c.more is_line.single (sym w.text_is ∙ is))
    by_says text is (inr h) =
        begins_by h.line rest (Head h.head) h.is_line h.says
        (front_of_line h.line h.rest rest c.more is_line.single (sym (append_assoc h.line (10 ∷ []) h.rest) ∙ sym h.text_is ∙ is))

-- an end of a sample has no LF
all_behind : (p : ℕ → Bool) (xs ys : List ℕ) → list_all p (xs ++ ys) ≡ true → list_all p ys ≡ true
all_behind p [] ys e = e
all_behind p (x ∷ xs) ys e = all_behind p xs ys (and_both (p x) (list_all p (xs ++ ys)) e).1

some_more : (xs : List ℕ) (b : ℕ) (ys : List ℕ) → xs ++ b ∷ ys ≢ []
some_more xs b ys e = absurd (omega (arith, ap length e, length-append xs (b ∷ ys)))

cut_with : (rest tail : List ℕ) (said : EventLine) → rest ≢ [] → IsLine (rest ++ tail) → line_of (rest ++ tail) ≡ Some said → IsCutRecord rest
cut_with rest tail (Whole event) begun is_line says = record {
  more = tail ++ 10 ∷ [];
  event = event;
  begun = begun;
  cut = some_more tail 10 [];
  says = inl (record { line = rest ++ tail; is_line = is_line; text_is = sym (append_assoc rest tail (10 ∷ [])); says = says });
}
cut_with rest tail (Head head) begun is_line says = record {
  more = tail ++ 10 ∷ 46 ∷ 10 ∷ [];
  event = datagram_at head [];
  begun = begun;
  cut = some_more tail 10 (46 ∷ 10 ∷ []);
  says = inr (record {
    line = rest ++ tail;
    head = head;
    is_line = is_line;
    text_is = sym (append_assoc rest tail (10 ∷ 46 ∷ 10 ∷ [])) ∙ sym (append_assoc (rest ++ tail) (10 ∷ []) (46 ∷ 10 ∷ []));
    says = says;
    event_is = refl;
  });
}

cut_by : (rest sample : List ℕ) → rest ≢ [] → IsLine rest → list_all (is_not 10) sample ≡ true → EndsAs rest sample → IsCutRecord rest
cut_by rest sample begun is_line single e =
    let none : count_by is_end e.tail ≡ 0 = no_end e.tail (all_behind (is_not 10) e.front e.tail (ap (list_all (is_not 10)) (sym e.cut) ∙ single)) in
    let sum : count_by is_end (rest ++ e.tail) ≡ count_by is_end rest + count_by is_end e.tail = ends_add rest e.tail in
    let first : count_by is_end rest ≡ 0 = is_line.single in
    let s : Says (rest ++ e.tail) = says_some (rest ++ e.tail) e.begins.says in
    cut_with rest e.tail s.said begun (record { short = e.begins.short; single = omega (arith, none, sum, first) }) s.says

cut_in_text : (rest : List ℕ) → rest ≢ [] → IsLine rest → EndsInText rest → IsCutRecord rest
cut_in_text rest begun is_line x = elim x [
  | inl f ↦ cut_by rest _ begun is_line refl f
  | inr other ↦ elim other [ inl f ↦ cut_by rest _ begun is_line refl f | inr f ↦ cut_by rest _ begun is_line refl f ]
]

-- the front of such a line was cut, in a record
cut_record : (rest : List ℕ) → rest ≢ [] → IsLine rest → BeginsLine rest → IsCutRecord rest
unfolding EndsSo
cut_record rest begun is_line b =
    elim (ends_so rest b) [
      | inl d ↦ cut_by rest _ begun is_line refl d
      | inr other ↦ elim other [
        | inl x ↦ cut_in_text rest begun is_line x
        | inr third ↦ elim third [
          | inl h ↦ cut_by rest _ begun is_line refl h
          | inr last ↦ elim last [ inl t ↦ cut_by rest _ begun is_line refl t | inr f ↦ cut_by rest _ begun is_line refl f ]
        ]
      ]
    ]

-- what was cut in a record was cut
pub cut_says : (rest : List ℕ) → IsCutRecord rest → IsCutEvent rest
cut_says rest c = record { more = c.more; event = c.event; begun = c.begun; cut = c.cut; says = recorded_says (rest ++ c.more) c.event c.says }

pub line_recorded : (rest : List ℕ) → IsCutLine rest → IsCutRecord rest
line_recorded rest c = cut_record rest c.begun c.is_line c.begins

cut_line : (rest : List ℕ) → IsCutLine rest → IsCutEvent rest
cut_line rest c = cut_says rest (line_recorded rest c)

-- ---- what no text behind it mends

never : (rest : List ℕ) → ((more : List ℕ) → IsNoEvent (rest ++ more)) → IsCutEvent rest → ⊥
never rest none c = no_refusal (rest ++ c.more) [] (rest ++ c.more) c.event c.says (append-nil (rest ++ c.more)) (none c.more)

pub no_line_yet : (rest more : List ℕ) → IsLong rest → HasNoLine (rest ++ more)
no_line_yet rest more l = let long : 200000 < length rest = l.long in ap (count_by is_end) (take-append-le 200001 rest more (omega (arith, long))) ∙ l.unended

long_some : (rest more : List ℕ) → 200000 < length rest → rest ++ more ≢ []
long_some rest more long e = absurd (omega (arith, long, ap length e, length-append rest more))

long_damaged : (rest : List ℕ) → IsLong rest → IsDamaged rest
long_damaged rest l = record {
  none = inl ((λ e. absurd (let long : 200000 < length rest = l.long in omega (arith, long, ap length e))), l.unended);
  no_front = never rest (λ more. inl (long_some rest more l.long, no_line_yet rest more l));
}

other_more : (rest more : List ℕ) → IsOtherLine rest → IsOtherLine (rest ++ more)
other_more rest more o = record {
  line = o.line;
  more = o.more ++ more;
  is_line = o.is_line;
  cut = ap (λ (l : List ℕ). l ++ more) o.cut ∙ append_assoc (ended o.line) o.more more;
  says = o.says;
}

other_damaged : (rest : List ℕ) → IsOtherLine rest → IsDamaged rest
other_damaged rest o = record { none = inr (inl o); no_front = never rest (λ more. inr (inl (other_more rest more o))) }

head_long : (line : List ℕ) (head : DatagramHead) (rest behind more : List ℕ) → IsLine line → line_of line ≡ Some (Head head) → rest ≡ ended line ++ behind
    → (l : IsLongDatagram behind) → IsCutShort (rest ++ more)
head_long line head rest behind more is_line says cut l = record {
  line = line;
  head = head;
  more = behind ++ more;
  is_line = is_line;
  cut = ap (λ (l : List ℕ). l ++ more) cut ∙ append_assoc (ended line) behind more;
  says = says;
  lines = record {
    front = l.front;
    bytes = l.bytes;
    more = l.more ++ more;
    cut = ap (λ (m : List ℕ). m ++ more) l.cut ∙ append_assoc l.front l.more more;
    says = l.says;
    unended = no_line_yet l.more more l.long;
  };
}

head_damaged : (line : List ℕ) (head : DatagramHead) (rest behind : List ℕ) → IsLine line → line_of line ≡ Some (Head head) → rest ≡ ended line ++ behind
    → IsLongDatagram behind → IsDamaged rest
head_damaged line head rest behind is_line says cut l = record {
  none = inr (inr (record {
    line = line;
    head = head;
    more = behind;
    is_line = is_line;
    cut = cut;
    says = says;
    lines = record { front = l.front; bytes = l.bytes; more = l.more; cut = l.cut; says = l.says; unended = l.long.unended };
  }));
  no_front = never rest (λ more. inr (inr (head_long line head rest behind more is_line says cut l)));
}

-- ---- the lines of a datagram, cut

-- what ends them
record Ending (behind : List ℕ) : Type 0 where
  more : List ℕ
  bytes : List ℕ
  some : more ≢ []
  lines : SaysDatagram (behind ++ more) bytes

dot_ends : (behind : List ℕ) → (c : IsCutDatagram behind) → is_dot c.more ≡ true → Ending behind
dot_ends behind c dot = record {
  more = 10 ∷ [];
  bytes = take 65508 c.bytes;
  some = not_nil 10 [];
  lines = record {
    before = c.front;
    whole = c.bytes;
    says = c.says;
    text_is = ap (λ (l : List ℕ). l ++ 10 ∷ []) (c.cut ∙ ap (λ (l : List ℕ). c.front ++ l) ((bytes_eq-Decides c.more (46 ∷ [])).0 dot))
        ∙ append_assoc c.front (46 ∷ []) (10 ∷ []);
    kept = refl;
  };
}

line_ends : (behind : List ℕ) → (c : IsCutDatagram behind) → is_dot c.more ≡ false → Ending behind
line_ends behind c other = record {
  more = 10 ∷ 46 ∷ 10 ∷ [];
  bytes = take 65508 (c.bytes ++ said c.more);
  some = not_nil 10 (46 ∷ 10 ∷ []);
  lines = record {
    before = c.front ++ ended c.more;
    whole = c.bytes ++ said c.more;
    says = says_more c.front c.bytes c.more c.says c.is_line other;
    text_is =
        ap (λ (l : List ℕ). l ++ 10 ∷ 46 ∷ 10 ∷ []) c.cut ∙ append_assoc c.front c.more (10 ∷ 46 ∷ 10 ∷ [])
        ∙ ap (λ (l : List ℕ). c.front ++ l) (sym (append_assoc c.more (10 ∷ []) (46 ∷ 10 ∷ [])))
        ∙ sym (append_assoc c.front (ended c.more) (46 ∷ 10 ∷ []));
    kept = refl;
  };
}

ending : (behind : List ℕ) → IsCutDatagram behind → Ending behind
ending behind c = elim (cases_Bool (is_dot c.more)) [ inl dot ↦ dot_ends behind c dot | inr other ↦ line_ends behind c other ]

pub line_begun : (line behind rest : List ℕ) → rest ≡ ended line ++ behind → rest ≢ []
line_begun line behind rest cut e = absurd (omega (arith, ap length (sym e ∙ cut), length-append (ended line) behind, length-append line (10 ∷ [])))

head_cut : (line : List ℕ) (head : DatagramHead) (rest behind : List ℕ) → IsLine line → line_of line ≡ Some (Head head) → rest ≡ ended line ++ behind
    → IsCutDatagram behind → IsCutEvent rest
head_cut line head rest behind is_line says cut c =
    let e : Ending behind = ending behind c in
    record {
      more = e.more;
      event = datagram_at head e.bytes;
      begun = line_begun line behind rest cut;
      cut = e.some;
      says = inr (record {
        line = line;
        head = head;
        rest = behind ++ e.more;
        bytes = e.bytes;
        is_line = is_line;
        text_is = ap (λ (l : List ℕ). l ++ e.more) cut ∙ append_assoc (ended line) behind e.more;
        says = says;
        lines = e.lines;
        event_is = refl;
      });
    }

-- ---- why no event is read

pub said_other : (old new : Reading) (before after : Option (List ℕ)) → GivesSaid old new before after None → IfSome (pending old before) IsDamaged
said_other old new before after s =
    behind_any (pending old before) (pending new after) (ended s.line) {Q = IsDamaged} s.given.consumes
    (λ xs ys cut. other_damaged xs (record { line = s.line; more = ys; is_line = s.given.is_line; cut = cut; says = s.says }))

pub said_head_stops : (F : Type 0) (old mid : Reading) (before middle : Option (List ℕ)) (head : DatagramHead) (stop : ReadStop)
    → GivesSaid old mid before middle (Some (Head head)) → DatagramStops F (pending mid middle) stop
    → ReadStops F (pending old before) stop
said_head_stops F old mid before middle head stops.NoMemory s h = tt
said_head_stops F old mid before middle head stops.Damaged s h =
    behind (pending old before) (pending mid middle) (ended s.line) {P = IsLongDatagram} {Q = IsDamaged} s.given.consumes h
    (λ xs ys cut p. head_damaged s.line head xs ys s.given.is_line s.says cut p)
said_head_stops F old mid before middle head stops.Cut s h =
    behind (pending old before) (pending mid middle) (ended s.line) {P = IsCutDatagram} {Q = IsCutEvent} s.given.consumes h
    (λ xs ys cut p. head_cut s.line head xs ys s.given.is_line s.says cut p)
said_head_stops F old mid before middle head stops.Read s h = h

-- a line cut
unfinished : (F : Type 0) (rest seen : List ℕ) (stop : ReadStop) → IsUnfinished seen rest → StopsIn seen stop → FirstStops F (Some rest) stop
unfinished F rest seen stops.NoMemory u h = tt
unfinished F rest seen stops.Damaged u h = record {
  none = inl ((λ e. u.begun (sym u.all ∙ e)), subst HasNoLine (sym u.all) (no_line seen u.is_line.single));
  no_front = λ c. h (subst BeginsLine u.all (begun_line rest (subst IsLine (sym u.all) u.is_line) c));
}
unfinished F rest seen stops.Cut u h = subst IsCutLine (sym u.all) (record { begun = u.begun; is_line = u.is_line; begins = h })
unfinished F rest seen stops.Read u h = absurd h

not_known : (F : Type 0) (seen : List ℕ) (stop : ReadStop) → StopsIn seen stop → FirstStops F None stop
not_known F seen stops.NoMemory h = tt
not_known F seen stops.Damaged h = tt
not_known F seen stops.Cut h = tt
not_known F seen stops.Read h = absurd h

-- no line at all
pub no_line_stops : (F : Type 0) (script : Option (List ℕ)) (seen : List ℕ) (old new : ReadStop) → LineStops F script seen old → StopsAt seen old new
    → FirstStops F script new
no_line_stops F script seen stops.NoMemory new h s = subst (λ (stop : ReadStop). FirstStops F script stop) (sym s) tt
no_line_stops F None seen stops.Damaged new h s = subst (λ (stop : ReadStop). FirstStops F None stop) (sym s) tt
no_line_stops F (Some rest) seen stops.Damaged new h s = subst (λ (stop : ReadStop). FirstStops F (Some rest) stop) (sym s) (long_damaged rest h)
no_line_stops F None seen stops.Cut new h s = not_known F seen new s
no_line_stops F (Some rest) seen stops.Cut new h s = unfinished F rest seen new h s
no_line_stops F script seen stops.Read new h s = subst (λ (stop : ReadStop). FirstStops F script stop) (sym s) h

-- nor an event then
pub no_first_line : (F : Type 0) (script : Option (List ℕ)) (stop : ReadStop) → FirstStops F script stop → ReadStops F script stop
no_first_line F script stops.NoMemory h = tt
no_first_line F script stops.Damaged h = h
no_first_line F None stops.Cut h = tt
no_first_line F (Some rest) stops.Cut h = cut_line rest h
no_first_line F script stops.Read h = h

pub other_stop : (line : List ℕ) (stop : ReadStop) → (stop ≡ stops.Cut → ⊥) → StopsAt line stop stop
other_stop line stops.NoMemory other = refl
other_stop line stops.Damaged other = refl
other_stop line stops.Cut other = absurd (other refl)
other_stop line stops.Read other = refl

-- ---- an end of a sample, place by place

contrary : (b : Bool) → b ≡ false → IsTrue b → ⊥
contrary true e t = absurd cc
contrary false e t = absurd cc

pub fails : {P : Type 0} (b : Bool) → b ≡ false → IsTrue b ↔ P → P → ⊥
fails b is told p = contrary b is (told.1 p)

pub none_false : {P : Type 0} → (P → ⊥) → IsTrue false ↔ P
none_false never_so = (λ t. absurd (contrary false refl t), λ p. absurd (never_so p))

-- what is left behind a place
tail_is : (sample : List ℕ) (place : ℕ) → take (length sample - place) (drop place sample) ≡ drop place sample
tail_is sample place = take_all (length sample - place) (drop place sample) (omega (arith, length-drop place sample))

pub ends_at : (text sample : List ℕ) (place : ℕ) → BeginsEvent (text ++ take (length sample - place) (drop place sample)) → EndsAs text sample
ends_at text sample place b =
    record {
      front = take place sample;
      tail = drop place sample;
      cut = sym (take-append-drop place sample);
      begins = subst (λ (l : List ℕ). BeginsEvent (text ++ l)) (tail_is sample place) b;
    }

pub ends_elsewhere : (text sample : List ℕ) (place : ℕ) (b : Bool) → b ≡ false → IsTrue b ↔ BeginsEvent (text ++ take (length sample - place) (drop place sample))
    → BeginsEvent (text ++ drop place sample) → ⊥
ends_elsewhere text sample place b is told begins = fails b is told (subst (λ (l : List ℕ). BeginsEvent (text ++ l)) (sym (tail_is sample place)) begins)

pub ends_nowhere : (text sample : List ℕ) (count : ℕ) → count ≡ length sample + 1 → ((place : ℕ) → place < count → BeginsEvent (text ++ drop place sample) → ⊥)
    → EndsAs text sample → ⊥
ends_nowhere text sample count all none e =
    let size : length (e.front ++ e.tail) ≡ length e.front + length e.tail = length-append e.front e.tail in
    let tail : e.tail ≡ drop (length e.front) sample = sym (drop_front e.front e.tail) ∙ ap (drop (length e.front)) (sym e.cut) in
    none (length e.front) (omega (arith, all, size, ap length e.cut)) (subst (λ (l : List ℕ). BeginsEvent (text ++ l)) tail e.begins)

pub last_begins : (text : List ℕ) → (EndsAs text (codes "time 0") → ⊥) → (EndsAs text (codes "fault 0 0/0") → ⊥)
    → (EndsAs text (codes "datagram 0 0.0.0.0:1 00000000000000000000000000000000") → ⊥)
    → (EndsAs text (codes "hex 0 0.0.0.0:1 00000000000000000000000000000000 00") → ⊥)
    → (EndsAs text (codes "text 0 0.0.0.0:1 00000000000000000000000000000000 n") → ⊥) → (EndsAs text (codes "0") → ⊥)
    → (b : Bool) → IsTrue b ↔ EndsAs text (codes "f") → IsTrue b ↔ BeginsLine text
unfolding EndsSo
last_begins text time fault plain hex letter least b most = (
  λ t. begins_so text _ (most.0 t),
  λ begins. elim (ends_so text begins) [
    | inl d ↦ absurd (plain d)
    | inr other ↦ elim other [
      | inl x ↦ elim x [
        | inl l ↦ absurd (letter l)
        | inr digit ↦ elim digit [ inl d ↦ absurd (least d) | inr d ↦ most.1 d ]
      ]
      | inr third ↦ elim third [
        | inl h ↦ absurd (hex h)
        | inr last ↦ elim last [ inl t ↦ absurd (time t) | inr f ↦ absurd (fault f) ]
      ]
    ]
  ],
)
